pub mod DepthSteps
