mod Beginning
mod Short
