-- Which of a square's children the bits of a number stand for.
use Rattle.std.specs.Prelude.{ℕ, ◌==◌, List, filter}
use Rattle.std.specs.List.{range_with_len}
use Rattle.std.specs.Int.{bit_at}

-- the digits below a fan whose bits are set, the first child's bit lowest
unfoldable pub digits_of : ℕ → ℕ → List ℕ
digits_of size bits = filter (λ digit. bit_at bits digit == 1) (range_with_len 0 size)
