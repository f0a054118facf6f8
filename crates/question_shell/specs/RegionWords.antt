-- What the words of a region ask.
use Rattle.std.specs.Prelude.{ℕ, zero, suc, ◌+◌, nat_le, ℤ, if◌then◌else◌, List, [], ◌∷◌, drop, length, map, take, codes}
use Rattle.std.specs.Prelude.{Option, Some, None, Result, Ok, Err, unsigned_abs}
use Rattle.std.specs.Str.{bytes_eq}
use Rattle.track_types.specs.Region.{region_one}
use Rattle.track_types.specs.declared.region.Region.{Region}
use Rattle.track_types.specs.declared.region.Region.TheVariants as region
use Rattle.track_types.specs.declared.shape.Shape.{Shape}
use Rattle.track_types.specs.declared.shape.Shape.TheVariants as shape
use Rattle.question_shell.specs.NumberWords.{NumberWord, first_fault, nth_number, numbers_of, word_number}
use Rattle.question_shell.specs.NumberWords.{place_word, radius_word, shapes_word, word_fault}
use Rattle.question_shell.specs.declared.bad.Bad.{Bad}
use Rattle.question_shell.specs.declared.bad.Bad.TheVariants as bad
use Rattle.question_shell.specs.declared.layout.Layout.{Layout}
use Rattle.question_shell.specs.declared.shape_words.ShapeWords.{ShapeWords}
use Rattle.question_shell.specs.declared.shape_words.ShapeWords.TheVariants.{Rect, Disc}

-- A form of shape: its name, the numbers after that, and the shape that has these numbers.
pub record ShapeForm : Type 0 where
  pub name : List ℕ
  pub numbers : List NumberWord
  pub shape_with : List ℤ → Shape

-- rect X1 Y1 X2 Y2
abbrev pub rect_form : ShapeForm
rect_form = record {
  name = codes "rect";
  numbers = place_word ∷ place_word ∷ place_word ∷ place_word ∷ [];
  shape_with = λ numbers.
      shape.Rect (nth_number numbers 0) (nth_number numbers 1) (nth_number numbers 2) (nth_number numbers 3);
}

-- disc X Y R
abbrev pub disc_form : ShapeForm
disc_form = record {
  name = codes "disc";
  numbers = place_word ∷ place_word ∷ radius_word ∷ [];
  shape_with = λ numbers. shape.Disc (nth_number numbers 0) (nth_number numbers 1) (unsigned_abs (nth_number numbers 2));
}

-- the form of shape that a word names
abbrev pub shape_form : List ℕ → Result ShapeForm Bad
shape_form name =
    if bytes_eq name rect_form.name then Ok rect_form
    else if bytes_eq name disc_form.name then Ok disc_form
    else Err bad.Word

-- the words of a shape: its form, and the words of its numbers
pub record ShapeTexts : Type 0 where
  pub form : ShapeForm
  pub words : List (List ℕ)

-- the words of a region: those of one shape, or of the shapes after `any` and their number
pub data RegionTexts : Type 0 where
  OneTexts : ShapeTexts → RegionTexts
  AnyTexts : List ShapeTexts → RegionTexts

-- the bytes of a shape's words that are borrowed
abbrev pub shape_texts : ShapeWords → ShapeTexts
shape_texts (Rect x1 y1 x2 y2) = record { form = rect_form; words = x1.now ∷ y1.now ∷ x2.now ∷ y2.now ∷ [] }
shape_texts (Disc x y r) = record { form = disc_form; words = x.now ∷ y.now ∷ r.now ∷ [] }

-- the bytes of the words of shapes that are laid out, which are borrowed
abbrev pub layout_texts : Layout → List ShapeTexts
layout_texts layout = shape_texts layout.first ∷ map shape_texts layout.more.items

-- what comes after a value, or what is wrong
abbrev pub and_then : {A B : Type 0} → Result A Bad → (A → Result B Bad) → Result B Bad
and_then (Err fault) next = Err fault
and_then (Ok value) next = next value

-- a value, or what is wrong
abbrev pub unless_bad : {A : Type 0} → Option Bad → A → Result A Bad
unless_bad (Some fault) value = Err fault
unless_bad None value = Ok value

-- a value, where no word is left
abbrev pub if_last : {A : Type 0} → List (List ℕ) → A → Result A Bad
if_last [] value = Ok value
if_last (word ∷ words) value = Err bad.Count

-- the words of a shape of that form, after its name, and those after them
abbrev pub form_cut : ShapeForm → List (List ℕ) → Result (ShapeTexts × List (List ℕ)) Bad
form_cut form words =
    let count = length form.numbers in
    if nat_le count (length words) then Ok (record { form = form; words = take count words }, drop count words)
    else Err bad.Count

-- the first shape and the words after it, or what is wrong with its name or the number of its words
abbrev pub shape_cut : List (List ℕ) → Result (ShapeTexts × List (List ℕ)) Bad
shape_cut [] = Err bad.Count
shape_cut (name ∷ words) = and_then (shape_form name) (λ form. form_cut form words)

-- so many shapes, after which no word comes, or the first thing that is wrong with that
unfoldable pub shapes_cut : ℕ → List (List ℕ) → Result (List ShapeTexts) Bad
shapes_cut zero words = if_last words []
shapes_cut (suc more) words =
    and_then (shape_cut words) (λ cut. and_then (shapes_cut more cut.1) (λ shapes. Ok (cut.0 ∷ shapes)))

-- how the words after `any` and a number of shapes are laid out
abbrev pub any_counted : Option Bad → ℕ → List (List ℕ) → Result RegionTexts Bad
any_counted (Some fault) count words = Err fault
any_counted None count words = and_then (shapes_cut count words) (λ shapes. Ok (AnyTexts shapes))

-- how the words after `any` are laid out, where the first one stands at that place of the line
abbrev pub any_layout : ℕ → List (List ℕ) → Result RegionTexts Bad
any_layout place [] = Err bad.Count
any_layout place (count ∷ words) =
    any_counted (word_fault shapes_word place count) (unsigned_abs (word_number count)) words

-- how the words of a region are laid out, where the first one stands at that place of the line; or what is wrong with that
abbrev pub layout_of : ℕ → List (List ℕ) → Result RegionTexts Bad
layout_of place [] = Err bad.Count
layout_of place (name ∷ words) =
    if bytes_eq name (codes "any") then any_layout (place + 1) words
    else and_then (shape_cut (name ∷ words)) (λ cut. if_last cut.1 (OneTexts cut.0))

-- how many words a shape has, its name among them
abbrev pub shape_size : ShapeTexts → ℕ
shape_size texts = length texts.form.numbers + 1

-- a shape by its words, whose name stands at that place of the line, or the first fault of its numbers
abbrev pub shape_of : ℕ → ShapeTexts → Result Shape Bad
shape_of place texts =
    unless_bad (first_fault texts.form.numbers place texts.words)
    (texts.form.shape_with (numbers_of texts.form.numbers texts.words))

-- shapes one after another, or the first fault
unfoldable pub shapes_of : ℕ → List ShapeTexts → Result (List Shape) Bad
shapes_of place [] = Ok []
shapes_of place (words ∷ more) =
    and_then (shape_of place words) (λ first.
    and_then (shapes_of (place + shape_size words) more) (λ shapes. Ok (first ∷ shapes)))

-- the region by its words, where the first one stands at that place; or the first fault of its numbers
abbrev pub region_of : ℕ → RegionTexts → Result Region Bad
region_of place (OneTexts words) = and_then (shape_of place words) (λ shape. Ok (region_one shape))
region_of place (AnyTexts shapes) = and_then (shapes_of (place + 2) shapes) (λ shapes. Ok (region.Any shapes))
