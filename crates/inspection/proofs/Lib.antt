-- Parts joins the tests of `soundness` to what the functions promise each other.
mod Parts
