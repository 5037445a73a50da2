pub mod LocalText
