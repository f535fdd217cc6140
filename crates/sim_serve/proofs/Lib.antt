mod WordLaws
mod TextLaws
mod LetLaws
mod ServeLaws
mod ImpLaws
mod ExactLaws
