pub mod CallersWoken
