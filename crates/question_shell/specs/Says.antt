-- What was said of a text, and what is held back.
use Rattle.std.specs.Prelude.{◌≡◌, ℕ, List, ◌++◌, Result, Ok, Err}
use Rattle.host_ports.specs.Histories.{Gains}

-- what was said, and the text that is held back
pub record Voice : Type 0 where
  pub said : List ℕ
  pub held : List ℕ

-- what was said and the text that is held back, put together
abbrev pub voice : List ℕ → List ℕ → Voice
voice said held = record { said = said; held = held }

-- What was held back and then the text were said, but for what is held back now.
pub record Says (before now : Voice) (text : List ℕ) : Type 0 where
  pub sent : List ℕ
  pub split : before.held ++ text ≡ sent ++ now.held
  pub said : Gains before.said now.said sent

-- A front of what was held back and the text was said.
pub record Cuts (before : Voice) (now : List ℕ) (text : List ℕ) : Type 0 where
  pub unsaid : List ℕ
  pub says : Says before (voice now unsaid) text

-- What an answer says of a text that was put: it was said, or a front of it.
abbrev pub Puts : {T E : Type 0} → Voice → Voice → List ℕ → Result T E → Type 0
Puts before now text (Ok value) = Says before now text
Puts before now text (Err fault) = Cuts before now.said text
