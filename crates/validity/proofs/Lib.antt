-- Laws has the law of specs/, for the layers above, and joins the test of one object to what the functions promise each other.
pub mod Laws
