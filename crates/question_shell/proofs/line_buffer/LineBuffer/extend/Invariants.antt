use Rattle.std.proofs.Common.{◌≡◌, ◌++◌, ℕ, List, take}
use Rattle.question_shell.specs.LineKept.{kept_of}
use Rattle.question_shell.proofs.line_buffer.LineBuffer.extend.Given as goal

abbrev pub invariant-loop-byte : goal.invariant-loop-byte
invariant-loop-byte l =
    (line : List ℕ) → l.fn.self ≡ kept_of line → l.self ≡ kept_of (line ++ take l.byte-index l.bytes)
