pub mod Controller
pub mod ControllerPieces
