pub mod AtFar
