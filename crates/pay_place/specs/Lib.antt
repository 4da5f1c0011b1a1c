pub mod ReadingViews
