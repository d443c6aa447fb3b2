pub mod HexLines
pub mod Claims
