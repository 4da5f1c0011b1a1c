pub mod DepthViews
