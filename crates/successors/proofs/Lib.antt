pub mod EdgesFollowed
