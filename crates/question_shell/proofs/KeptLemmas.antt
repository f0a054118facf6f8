-- What is kept of a line, byte after byte, and that it asks what the line asks.
use Rattle.std.proofs.Common.{◌≡◌, ℕ, ◌+◌, ◌<◌, ◌≤◌, Bool, true, false, not, ◌||◌, if◌then◌else◌, List, [], ◌∷◌}
use Rattle.std.proofs.Common.{◌++◌, length, take, drop, filter, get_or, set, refl, sym, ap, ◌∙◌, arith, inl, inr, take_all}
use Rattle.std.proofs.Common.{Ok, Err, None, append-nil, length-append}
use Rattle.std.specs.List.{list_any}
use Rattle.std.proofs.lemmas.Bool.{cases_Bool, cases_lt, lt-ltb}
use Rattle.std.proofs.Math.Seq.{get_or-append_seam, set-append_seam}
use Rattle.std.proofs.lemmas.List.{drop-append-le, drop_all, length-drop, length-take, take-append-drop, take-append-le}
use Rattle.std.proofs.lemmas.List.Folds.{list_any-append}
use Rattle.question_shell.specs.Lines.{words_of, is_gap, has_byte}
use Rattle.question_shell.specs.LineKept.{kept_of, telling_byte}
use Rattle.question_shell.specs.Grammar.{question_in, question_of}
use Rattle.question_shell.specs.declared.bad.Bad.TheVariants.{Long}
use Rattle.question_shell.proofs.LineLemmas.{Pieces, begin_first, separated, words_of-is}

-- a byte that is no gap
abbrev is_in_word : ℕ → Bool
is_in_word byte = not (is_gap byte)

-- a line has a word where a byte of it is in one
any-byte : (is_end : Bool) (byte : ℕ) (ended : List (List ℕ)) (left : List ℕ) →
    let pieces : Pieces = if is_end then record { ended = [] ∷ ended; left = left } else begin_first byte ended left in
    list_any has_byte (pieces.ended ++ pieces.left ∷ []) ≡ (not is_end || list_any has_byte (ended ++ left ∷ []))
any-byte true byte ended left = refl
any-byte false byte [] left = refl
any-byte false byte (piece ∷ ended) left = refl

any-piece : (line : List ℕ) →
    list_any has_byte ((separated is_gap line).ended ++ (separated is_gap line).left ∷ []) ≡ list_any is_in_word line
any-piece [] = refl
any-piece (byte ∷ line) =
    any-byte (is_gap byte) byte (separated is_gap line).ended (separated is_gap line).left
    ∙ ap (λ rest. not (is_gap byte) || rest) (any-piece line)

too_long-filter : (pieces : List (List ℕ)) →
    question_in true (filter has_byte pieces) ≡ (if list_any has_byte pieces then Err Long else Ok None)
too_long-filter [] = refl
too_long-filter ([] ∷ pieces) = too_long-filter pieces
too_long-filter ((byte ∷ piece) ∷ pieces) = refl

-- what a line that is too long asks
pub too_long-any : (line : List ℕ) →
    question_in true (words_of line) ≡ (if list_any is_in_word line then Err Long else Ok None)
too_long-any line =
    let all = (separated is_gap line).ended ++ (separated is_gap line).left ∷ [] in
    ap (question_in true) (words_of-is line) ∙ (too_long-filter all
    ∙ ap (λ some. if some then Err Long else Ok None) (any-piece line))

-- what a line of more than 1,024 bytes asks
question_of-long : (line : List ℕ) → 1024 < length line →
    question_of line ≡ (if list_any is_in_word line then Err Long else Ok None)
question_of-long line long = rw (lt-ltb 1024 (length line) long) (too_long-any line)

-- the byte that is kept of some tells whether any is in a word
any-telling : (bytes : List ℕ) → list_any is_in_word (telling_byte bytes) ≡ list_any is_in_word bytes
any-telling [] = refl
any-telling (byte ∷ []) = refl
any-telling (byte ∷ next ∷ rest) = elim (cases_Bool (is_gap byte)) [
  | inl gap ↦ rw gap (any-telling (next ∷ rest))
  | inr inside ↦ rw (inside, inside) refl
]

-- it is one, where there are any
telling-one : (bytes : List ℕ) → 0 < length bytes → length (telling_byte bytes) ≡ 1
telling-one [] some = absurd (omega (arith, some))
telling-one (byte ∷ []) some = refl
telling-one (byte ∷ next ∷ rest) some = elim (cases_Bool (is_gap byte)) [
  | inl gap ↦ rw gap (telling-one (next ∷ rest) (omega arith))
  | inr inside ↦ rw inside refl
]

-- a further byte takes its place where it is a gap
telling-push : (bytes : List ℕ) (kept byte : ℕ) → telling_byte bytes ≡ kept ∷ [] →
    telling_byte (bytes ++ byte ∷ []) ≡ (if is_gap kept then byte else kept) ∷ []
telling-push [] kept byte is = cc
telling-push (first ∷ []) kept byte is =
    let same : first ≡ kept = cc in elim (cases_Bool (is_gap kept)) [
      | inl gap ↦ rw (same, gap) refl
      | inr inside ↦ rw (same, inside) refl
    ]
telling-push (first ∷ next ∷ rest) kept byte is = elim (cases_Bool (is_gap first)) [
  | inl gap ↦ rw gap (telling-push (next ∷ rest) kept byte (rw gap at is))
  | inr inside ↦
      let whole : first ∷ [] ≡ kept ∷ [] = rw inside at is in
      let same : first ≡ kept = cc in
      rw (inside, ← same, inside) refl
]

-- all of a line of at most 1,024 bytes is kept, and else 1,025
kept-short : (line : List ℕ) → length line ≤ 1024 → kept_of line ≡ line
kept-short line short =
    let none : drop 1024 line ≡ [] = drop_all 1024 line short in
    let all : take 1024 line ≡ line = take_all 1024 line short in
    rw (none, all) (append-nil line)

telling-few : (bytes : List ℕ) → length bytes ≤ 1 → telling_byte bytes ≡ bytes
telling-few [] few = refl
telling-few (byte ∷ []) few = refl
telling-few (byte ∷ next ∷ rest) few = absurd (omega (arith, few))

-- what is kept is kept whole
pub kept-all : (line : List ℕ) → length line ≤ 1025 → kept_of line ≡ line
kept-all line few =
    ap (λ rest. take 1024 line ++ rest) (telling-few (drop 1024 line) (omega (arith, few, length-drop 1024 line)))
    ∙ take-append-drop 1024 line

kept-long : (line : List ℕ) → 1024 < length line → length (kept_of line) ≡ 1025
kept-long line long =
    let front = take 1024 line in
    let rest = drop 1024 line in
    let one : length (telling_byte rest) ≡ 1 = telling-one rest (omega (arith, long, length-drop 1024 line)) in
    omega (arith, one, long, length-append front (telling_byte rest), length-take 1024 line)

-- what is kept asks what the line asks
pub question_of-kept : (line : List ℕ) → question_of (kept_of line) ≡ question_of line
question_of-kept line = elim (cases_lt 1024 (length line)) [
  | inl long ↦
      let front = take 1024 line in
      let rest = drop 1024 line in
      let any : list_any is_in_word (kept_of line) ≡ list_any is_in_word line =
      list_any-append is_in_word front (telling_byte rest) ∙ (ap (λ some. list_any is_in_word front || some) (any-telling rest)
      ∙ (sym (list_any-append is_in_word front rest) ∙ ap (list_any is_in_word) (take-append-drop 1024 line))) in
      question_of-long (kept_of line) (omega (arith, kept-long line long))
      ∙ (ap (λ some. if some then Err Long else Ok None) any ∙ sym (question_of-long line long))
  | inr short ↦ ap question_of (kept-short line (omega (arith, short)))
]

-- bytes more, where there is room for all of them
pub kept-bytes : (line kept bytes : List ℕ) → kept ≡ kept_of line → length kept + length bytes ≤ 1024 →
    kept ++ bytes ≡ kept_of (line ++ bytes)
kept-bytes line kept bytes is room = elim (cases_lt 1024 (length line)) [
  | inl long ↦ absurd (omega (arith, room, ap length is, kept-long line long))
  | inr short ↦
      let same : kept ≡ line = is ∙ kept-short line (omega (arith, short)) in
      let within : length (line ++ bytes) ≤ 1024 = omega (arith, room, ap length same, length-append line bytes) in
      ap (λ front. front ++ bytes) same ∙ sym (kept-short (line ++ bytes) within)
]

-- a byte more, where there is room
pub kept-room : (line kept : List ℕ) (byte : ℕ) → kept ≡ kept_of line → length kept ≤ 1024 →
    kept ++ byte ∷ [] ≡ kept_of (line ++ byte ∷ [])
kept-room line kept byte is room = elim (cases_lt 1024 (length line)) [
  | inl long ↦ absurd (omega (arith, room, ap length is, kept-long line long))
  | inr short ↦ elim (cases_lt (length line) 1024) [
    | inl below ↦
        let next : kept_of (line ++ byte ∷ []) ≡ line ++ byte ∷ [] =
        kept-short (line ++ byte ∷ []) (omega (arith, below, length-append line (byte ∷ []))) in
        ap (λ bytes. bytes ++ byte ∷ []) (is ∙ kept-short line (omega (arith, below))) ∙ sym next
    | inr full ↦
        let none : drop 1024 line ≡ [] = drop_all 1024 line (omega (arith, short)) in
        let front : take 1024 (line ++ byte ∷ []) ≡ take 1024 line = take-append-le 1024 line (byte ∷ []) (omega (arith, full)) in
        let back : drop 1024 (line ++ byte ∷ []) ≡ drop 1024 line ++ byte ∷ [] = drop-append-le 1024 line (byte ∷ []) (omega (arith, full)) in
        rw (is, front, back, none, append-nil (take 1024 line)) refl
  ]
]

one-byte : (bytes : List ℕ) (d : ℕ) → length bytes ≡ 1 → bytes ≡ get_or bytes 0 d ∷ []
one-byte [] d one = cc
one-byte (byte ∷ []) d one = refl
one-byte (byte ∷ other ∷ bytes) d one = absurd (omega (arith, one))

full-at : (line : List ℕ) (kept last byte : ℕ) → 1024 < length line → telling_byte (drop 1024 line) ≡ kept ∷ [] →
    get_or (kept_of line) 1024 last ≡ last → set (kept_of line) 1024 (if is_gap last then byte else last) ≡ kept_of (line ++ byte ∷ [])
full-at line kept last byte long is here =
    let front = take 1024 line in
    let whole : length front ≡ 1024 = omega (arith, long, length-take 1024 line) in
    let first : take 1024 (line ++ byte ∷ []) ≡ front = take-append-le 1024 line (byte ∷ []) (omega (arith, long)) in
    let after : drop 1024 (line ++ byte ∷ []) ≡ drop 1024 line ++ byte ∷ [] = drop-append-le 1024 line (byte ∷ []) (omega (arith, long)) in
    let found : get_or (front ++ kept ∷ []) 1024 last ≡ kept = rw whole at (get_or-append_seam front kept [] last) in
    let same : kept ≡ last = sym found ∙ (rw is at here) in
    let value = if is_gap last then byte else last in
    let put : set (front ++ kept ∷ []) 1024 value ≡ front ++ value ∷ [] = rw whole at (set-append_seam front kept [] value) in
    rw (first, after, telling-push (drop 1024 line) kept byte is, is, put, same) refl

-- a byte more, where there is none
pub kept-full : (line kept : List ℕ) (last byte : ℕ) → kept ≡ kept_of line → 1024 < length kept → get_or kept 1024 last ≡ last →
    set kept 1024 (if is_gap last then byte else last) ≡ kept_of (line ++ byte ∷ [])
kept-full line kept last byte is full here = elim (cases_lt 1024 (length line)) [
  | inl long ↦
      let bytes = telling_byte (drop 1024 line) in
      let one : length bytes ≡ 1 = telling-one (drop 1024 line) (omega (arith, long, length-drop 1024 line)) in
      rw is (full-at line (get_or bytes 0 last) last byte long (one-byte bytes last one) (rw is at here))
  | inr short ↦ absurd (omega (arith, full, short, ap length (is ∙ kept-short line (omega (arith, short)))))
]
