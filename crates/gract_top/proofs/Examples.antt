-- The definitions, run on inputs that were worked out by hand.
use Rattle.std.proofs.Common.{◌≡◌, ℕ, List, [], ◌∷◌, codes, refl, Bor, map, Ok, Some}
use Rattle.std.specs.Fmt.{digits}
use Rattle.question_shell.specs.Grammar.{question_of}
use Rattle.track_types.specs.declared.limit.LimitKind.TheVariants as limit
use Rattle.track_types.specs.declared.raw_row.RowFault.TheVariants as fault
use Rattle.track_types.specs.declared.setting.Setting.TheVariants as setting
use Rattle.gract_top.specs.OutcomeText.{text_of}
use Rattle.gract_top.specs.Request.{request_of, word_values}
use Rattle.gract_top.specs.Summary.{counted_questions}
use Rattle.gract_top.specs.declared.outcome.Outcome.TheVariants as outcome
use Rattle.gract_top.specs.declared.request.Request.TheVariants as request

-- a command word
abbrev word : List ℕ → Bor (List ℕ)
word text = record { ref_ptr = (0, 0); now = text }

-- the words of a command
abbrev words : List (List ℕ) → List (Bor (List ℕ))
words texts = map word texts

-- command words
form_once : request_of (words (codes "once" ∷ codes "t.csv" ∷ codes "+10" ∷ codes " 60" ∷ codes "4" ∷ []))
    ≡ request.Once (word (codes "t.csv")) (record { cell = 10; tick = 60; period = 4 })
unfolding word_values
form_once = refl

no_words : request_of [] ≡ request.Refused 1
no_words = refl

unknown_command : request_of (words (codes "fetch" ∷ [])) ≡ request.Refused 1
unknown_command = refl

empty_name : request_of (words (codes "once" ∷ codes "" ∷ codes "1" ∷ codes "1" ∷ codes "4" ∷ [])) ≡ request.Refused 2
unfolding word_values
empty_name = refl

cell_below : request_of (words (codes "once" ∷ codes "t.csv" ∷ codes "0" ∷ codes "x" ∷ codes "4" ∷ [])) ≡ request.Refused 3
unfolding word_values
cell_below = refl

period_missing : request_of (words (codes "once" ∷ codes "t.csv" ∷ codes "1" ∷ codes "1" ∷ [])) ≡ request.Refused 5
unfolding word_values
period_missing = refl

period_above : request_of (words (codes "once" ∷ codes "t.csv" ∷ codes "1" ∷ codes "1" ∷ codes "4194305" ∷ []))
    ≡ request.Refused 5
unfolding word_values
period_above = refl

one_word_more : request_of (words (codes "once" ∷ codes "t.csv" ∷ codes "1" ∷ codes "1" ∷ codes "4" ∷ codes "x" ∷ []))
    ≡ request.Refused 6
unfolding word_values
one_word_more = refl

form_ask : request_of (words (codes "ask" ∷ codes "t.idx" ∷ [])) ≡ request.Ask (word (codes "t.idx"))
unfolding word_values
form_ask = refl

form_ask_tail : request_of (words (codes "ask" ∷ codes "t.idx" ∷ codes "t.csv" ∷ []))
    ≡ request.AskTail (word (codes "t.idx")) (word (codes "t.csv"))
unfolding word_values
form_ask_tail = refl

empty_tail : request_of (words (codes "ask" ∷ codes "t.idx" ∷ codes "" ∷ [])) ≡ request.Refused 3
unfolding word_values
empty_tail = refl

behind_a_tail : request_of (words (codes "ask" ∷ codes "t.idx" ∷ codes "t.csv" ∷ codes "x" ∷ [])) ≡ request.Refused 4
unfolding word_values
behind_a_tail = refl

form_upgrade : request_of (words (codes "upgrade" ∷ codes "t.idx" ∷ codes " " ∷ []))
    ≡ request.Upgrade (word (codes "t.idx")) (word (codes " "))
unfolding word_values
form_upgrade = refl

new_missing : request_of (words (codes "upgrade" ∷ codes "t.idx" ∷ [])) ≡ request.Refused 3
unfolding word_values
new_missing = refl

form_merge : request_of (words (codes "merge" ∷ codes "t.idx" ∷ codes "u.idx" ∷ codes "t.idx" ∷ []))
    ≡ request.Merge (word (codes "t.idx")) (word (codes "u.idx")) (word (codes "t.idx"))
unfolding word_values
form_merge = refl

form_extend : request_of (words (codes "extend" ∷ codes "t.idx" ∷ codes "t.csv" ∷ codes "t.csv" ∷ []))
    ≡ request.Extend (word (codes "t.idx")) (word (codes "t.csv")) (word (codes "t.csv"))
unfolding word_values
form_extend = refl

behind_an_extension : request_of (words (codes "extend" ∷ codes "t.idx" ∷ codes "t.csv" ∷ codes "m.idx" ∷ codes "x" ∷ []))
    ≡ request.Refused 5
unfolding word_values
behind_an_extension = refl

out_missing : request_of (words (codes "merge" ∷ codes "t.idx" ∷ codes "u.idx" ∷ [])) ≡ request.Refused 4
unfolding word_values
out_missing = refl

-- the lines that ask for a summary of 64 instants
summary_lines : map question_of
    (codes "position 0 32" ∷ codes "path 0 0 63" ∷ codes "slice 32 rect 0 0 511 511"
    ∷ codes "interval 0 63 disc 512 512 100" ∷ codes "nearest 5 63 512 512" ∷ [])
    ≡ map (λ asked. Ok (Some asked)) (counted_questions 64)
summary_lines = refl

-- texts
limit_line : text_of (outcome.Limit limit.Extent 16777217) ≡ codes "gract: limit extent passed at 16777217"
unfolding digits
limit_line = refl

count_line : text_of (outcome.Row 2 3 fault.Count) ≡ codes "gract: record 2 has 3 fields"
unfolding digits
count_line = refl

word_line : text_of (outcome.Words 3) ≡ codes "gract: word 3 is not as expected"
unfolding digits
word_line = refl

settings_line : text_of (outcome.Settings setting.Period 4 8) ≡ codes "gract: the files differ in period: 4 and 8"
unfolding digits
settings_line = refl

common_line : text_of (outcome.Common 7) ≡ codes "gract: object 7 is in both files"
unfolding digits
common_line = refl
