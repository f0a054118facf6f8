-- Searches side by side: one goes on, and the others stay.
use Rattle.std.proofs.Common.{◌≡◌, ℕ, ◌+◌, ◌<◌, ℤ, List, [], ◌∷◌, ◌++◌, All, length, map, take, get_or, set, refl, ap, sym, ◌∙◌, append_assoc, arith}
use Rattle.std.specs.Prelude.{option_to_list, Option}
use Rattle.std.specs.List.{cons_option, filter_map, refill, sum_by}
use Rattle.std.proofs.lemmas.List.{append-nil, drop_all, length-map, take_all, take_more}
use Rattle.std.proofs.lemmas.List.Elements.{All-set, filter_map-append}
use Rattle.std.proofs.lemmas.List.Sums.{sum_by_more_le}
use Rattle.std.proofs.Math.Seq.{map-set_same}
use Rattle.list_laws.proofs.OptionLemmas.{append-option}
use Rattle.track_types.specs.declared.region.Region.{Region}
use Rattle.track_types.specs.declared.sighting.Sighting.{Sighting}
use Rattle.rule_store.specs.View.{RulesView}
use Rattle.log_cursor.specs.Descent.{rules_of}
use Rattle.log_cursor.specs.Needs.{RulesWithin}
use Rattle.slice_search.specs.Seekers.{AreTurned, IsSeeker, OpensWithin, rest_in, seen_by}
use Rattle.slice_search.specs.declared.seekers.Seeker.{Seeker}

module _ (rules : RulesView) (instant : ℤ) (region : Region) where
  -- nothing went on yet
  pub turned-first : (seekers : List Seeker) → All (IsSeeker rules instant) seekers →
      AreTurned rules instant region seekers seekers
  turned-first seekers are = record { sound = are; seen = refl; opens = λ may all. all }

  -- one goes on
  pub turned-next : (before now : List Seeker) (i : ℕ) (next d : Seeker) → i < length now →
      AreTurned rules instant region before now → IsSeeker rules instant next →
      seen_by rules instant region next ≡ seen_by rules instant region (get_or now i d) →
      RulesWithin (rules_of rules instant region next.descent) (rules_of rules instant region (get_or now i d).descent) →
      AreTurned rules instant region before (set now i next)
  turned-next before now i next d within turned is same fewer = record {
    sound = All-set (IsSeeker rules instant) now i next is turned.sound;
    seen = map-set_same (seen_by rules instant region) now i next d same ∙ turned.seen;
    opens = λ may all. (
        let own = turned.opens may all in
        All-set (OpensWithin rules instant region may) now i next (λ rule is. own i d within rule (fewer rule is)) own);
  }

  -- and then all of them
  pub turned-again : (before now later : List Seeker) → AreTurned rules instant region before now →
      AreTurned rules instant region now later → AreTurned rules instant region before later
  turned-again before now later turned more = record {
    sound = more.sound;
    seen = more.seen ∙ turned.seen;
    opens = λ may all. more.opens may (turned.opens may all);
  }

-- what is written back in the place of searches
pub refill-same : (xs ws : List Seeker) → length ws ≡ length xs → refill (length xs) xs ws ≡ ws
refill-same xs ws same =
    ap (λ rest. take (length xs) (ws ++ rest)) (drop_all (length ws) xs (omega (arith, same)))
    ∙ ap (take (length xs)) (append-nil ws) ∙ take_all (length xs) ws (omega (arith, same))

-- searches that went on are as many
pub turned-length : (rules : RulesView) (instant : ℤ) (region : Region) (before now : List Seeker) →
    AreTurned rules instant region before now → length now ≡ length before
turned-length rules instant region before now turned =
    sym (length-map now (seen_by rules instant region)) ∙ ap length turned.seen
    ∙ length-map before (seen_by rules instant region)

-- where none is left, each is over
pub rest-none : (seekers : List Seeker) (i : ℕ) (d : Seeker) → i < length seekers → sum_by rest_in seekers ≡ 0 →
    rest_in (get_or seekers i d) ≡ 0
rest-none seekers i d within none = omega (arith, sum_by_more_le rest_in seekers i d within, none)

module _ (rules : RulesView) (instant : ℤ) (region : Region) where
  abbrev seen : Seeker → Option Sighting
  seen seeker = seen_by rules instant region seeker

  -- what one more has found is put at the end
  pub pushed-next : (seekers : List Seeker) (i : ℕ) (d : Seeker) (start now next : List Sighting) (own : Option Sighting) →
      i < length seekers → now ≡ start ++ filter_map seen (take i seekers) → own ≡ seen (get_or seekers i d) →
      next ≡ now ++ option_to_list own → next ≡ start ++ filter_map seen (take (i + 1) seekers)
  pushed-next seekers i d start now next own within is its more =
      let first : List Sighting = filter_map seen (take i seekers) in
      let last : Seeker = get_or seekers i d in
      let all : filter_map seen (take (i + 1) seekers) ≡ first ++ filter_map seen (last ∷ []) =
      ap (filter_map seen) (take_more seekers i d within) ∙ filter_map-append seen (take i seekers) (last ∷ []) in
      let one : option_to_list own ≡ filter_map seen (last ∷ []) =
      sym (append-nil (option_to_list own)) ∙ append-option own [] ∙ ap (λ o. cons_option o []) its in
      more ∙ ap (λ s. s ++ option_to_list own) is ∙ append_assoc start first (option_to_list own)
      ∙ ap (λ s. start ++ (first ++ s)) one ∙ ap (λ s. start ++ s) (sym all)

  -- what searches come to, by what each comes to
  sightings_of : (seekers : List Seeker) → filter_map seen seekers ≡ filter_map (λ one. one) (map seen seekers)
  sightings_of [] = refl
  sightings_of (seeker ∷ seekers) = ap (cons_option (seen seeker)) (sightings_of seekers)

  -- searches that went on come to the same sightings
  pub turned-sightings : (before now : List Seeker) → AreTurned rules instant region before now →
      filter_map seen now ≡ filter_map seen before
  turned-sightings before now turned =
      sightings_of now ∙ ap (filter_map (λ one. one)) turned.seen ∙ sym (sightings_of before)
