pub mod ListsKept
