-- What is said for lines, one after another, the desk after them, and what they cost.
use Rattle.std.specs.Prelude.{ℕ, ◌+◌, List, [], ◌∷◌, ◌++◌, Option}
use Rattle.track_types.specs.Chart.{ChartView}
use Rattle.track_types.specs.declared.facts.Facts.{Facts}
use Rattle.track_types.specs.declared.question.Question.{Question}
use Rattle.track_types.specs.declared.stop.Stop.{Stop}
use Rattle.question_shell.specs.Grammar.{question_of}
use Rattle.question_shell.specs.Reply.{Turn, asked_cost, asked_turn}

-- what a line brings, where the desk holds these walks
abbrev pub turn_of : ChartView → Facts → List (Option (List Stop)) → List ℕ → Turn
turn_of chart facts desk line = asked_turn chart facts desk (question_of line)

-- the replies to lines, each to the desk that the line before left
unfoldable pub replies_of : ChartView → Facts → List (Option (List Stop)) → List (List ℕ) → List ℕ
replies_of chart facts desk [] = []
replies_of chart facts desk (line ∷ lines) =
    let turn = turn_of chart facts desk line in turn.text ++ replies_of chart facts turn.desk lines

-- the desk after lines
unfoldable pub desk_after : ChartView → Facts → List (Option (List Stop)) → List (List ℕ) → List (Option (List Stop))
desk_after chart facts desk [] = desk
desk_after chart facts desk (line ∷ lines) = desk_after chart facts (turn_of chart facts desk line).desk lines

-- what lines may cost in reads
unfoldable pub costs_of : (Question → ℕ) → ChartView → Facts → List (Option (List Stop)) → List (List ℕ) → ℕ
costs_of cost chart facts desk [] = 0
costs_of cost chart facts desk (line ∷ lines) =
    asked_cost cost desk (question_of line) + costs_of cost chart facts (turn_of chart facts desk line).desk lines
