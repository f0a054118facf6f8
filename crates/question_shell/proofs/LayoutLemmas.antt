-- Cutting shapes off words and reading them, one after another.
use Rattle.std.proofs.Common.{◌≡◌, ◌+◌, ◌-◌, ◌<◌, ◌≤◌, ℕ, suc, List, [], ◌∷◌, Ok, Err, Result, ◌++◌, append_assoc, append-nil, arith, refl, sym}
use Rattle.question_shell.specs.RegionWords.{ShapeTexts, and_then, if_last, shape_cut, shape_of, shape_size, shapes_cut, shapes_of}
use Rattle.track_types.specs.declared.shape.Shape.{Shape}
use Rattle.question_shell.specs.declared.bad.Bad.{Bad}

-- some before others, unless those are bad
abbrev pub joined : {A : Type 0} → List A → Result (List A) Bad → Result (List A) Bad
joined before rest = and_then rest (λ more. Ok (before ++ more))

joined-none : {A : Type 0} (rest : Result (List A) Bad) → joined [] rest ≡ rest
joined-none (Ok values) = refl
joined-none (Err fault) = refl

joined-next : {A : Type 0} (before : List A) (value : A) (rest : Result (List A) Bad) →
    joined before (and_then rest (λ more. Ok (value ∷ more))) ≡ joined (before ++ value ∷ []) rest
joined-next before value (Ok more) = rw append_assoc refl
joined-next before value (Err fault) = refl

-- nothing before them
pub cut-begin : (count : ℕ) (words : List (List ℕ)) → shapes_cut count words ≡ joined [] (shapes_cut (count - 0) words)
cut-begin count words = let same : count - 0 ≡ count = omega arith in rw same (sym (joined-none (shapes_cut count words)))

module _ (count done : ℕ) (before : List ShapeTexts) (words : List (List ℕ)) where
  -- no shape comes where one should
  pub cut-bad : (fault : Bad) → done < count → shape_cut words ≡ Err fault →
      joined before (shapes_cut (count - done) words) ≡ Err fault
  unfolding shapes_cut
  cut-bad fault below is =
      let some : count - done ≡ suc (count - (done + 1)) = omega (arith, below) in rw (some, is) refl

  -- a shape and those after it
  pub cut-next : (shape : ShapeTexts) (after : List (List ℕ)) → done < count → shape_cut words ≡ Ok (shape, after) →
      joined before (shapes_cut (count - done) words)
      ≡ joined (before ++ shape ∷ []) (shapes_cut (count - (done + 1)) after)
  unfolding shapes_cut
  cut-next shape after below is =
      let some : count - done ≡ suc (count - (done + 1)) = omega (arith, below) in
      rw (some, is) (joined-next before shape _)

  -- all of them, after which a word may come
  pub cut-all : count ≤ done → joined before (shapes_cut (count - done) words) ≡ if_last words before
  unfolding shapes_cut
  cut-all all = let none : count - done ≡ 0 = omega (arith, all) in rw none (by_words words)
    where
      by_words : (words : List (List ℕ)) → joined before (if_last words []) ≡ if_last words before
      by_words [] = rw (append-nil before) refl
      by_words (word ∷ words) = refl

-- nothing before them
pub read-begin : (place : ℕ) (words : List ShapeTexts) → shapes_of place words ≡ joined [] (shapes_of place words)
read-begin place words = sym (joined-none (shapes_of place words))

module _ (place : ℕ) (words : ShapeTexts) (more : List ShapeTexts) (before : List Shape) where
  -- a shape with a bad number
  pub read-bad : (fault : Bad) → shape_of place words ≡ Err fault →
      joined before (shapes_of place (words ∷ more)) ≡ Err fault
  unfolding shapes_of
  read-bad fault is = rw is refl

  -- a shape and those after it
  pub read-next : (shape : Shape) → shape_of place words ≡ Ok shape →
      joined before (shapes_of place (words ∷ more))
      ≡ joined (before ++ shape ∷ []) (shapes_of (place + shape_size words) more)
  unfolding shapes_of
  read-next shape is = rw is (joined-next before shape _)

-- all of them
pub read-all : (place : ℕ) (before : List Shape) → joined before (shapes_of place []) ≡ Ok before
unfolding shapes_of
read-all place before = rw (append-nil before) refl
