pub mod BoxChoices
