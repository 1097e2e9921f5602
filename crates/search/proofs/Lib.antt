-- Laws has the law of specs/, for the layers above. OneStep has one step by images, and Layers the search layer by layer, for those that go on with it.
mod OneStep
pub mod Layers
pub mod Laws
