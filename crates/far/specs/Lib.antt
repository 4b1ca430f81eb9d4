pub mod FarRows
