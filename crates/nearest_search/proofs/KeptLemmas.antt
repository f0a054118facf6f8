-- The kept entries in order: a new one is put in its place, and the last one gives way.
use Rattle.std.proofs.Common.{◌≡◌, ℕ, zero, suc, ◌+◌, ◌≤◌, ◌<◌, true, false, List, [], ◌∷◌, ◌++◌, length, map, take, Ordering, Option, None, Some, ◌-◌}
use Rattle.std.proofs.Common.{refl, sym, ◌∙◌, ap, arith}
use Rattle.std.specs.Prelude.{nat_le, slice_get, IfSome, IsSome}
use Rattle.std.specs.Option.{option_map}
use Rattle.std.specs.BTreeMap.{insert_entry}
use Rattle.std.specs.Cmp.{IsTotalOrder}
use Rattle.std.specs.List.{AllByRecursion, list_any}
use Rattle.std.specs.Ordering.{eq_by_cmp, is_eq, is_lt, nat_cmp, ordering_reverse, ordering_then}
use Rattle.std.specs.declared.cmp.Ordering.TheVariants.{Less, Equal, Greater}
use Rattle.std.proofs.lemmas.Bool.{or_parts}
use Rattle.std.proofs.lemmas.Cmp.{nat_cmp_total, on_total, then_total}
use Rattle.std.proofs.lemmas.Option.{slice_get_within, slice_get-map}
use Rattle.std.proofs.lemmas.List.{length-append, length-map, map-append, nil_from_length, take_all, take_at}
use Rattle.std.proofs.lemmas.List.MinMax.{ranks_by}
use Rattle.std.proofs.lemmas.List.Sorted.{length_permutation}
use Rattle.list_laws.specs.Ordered.{insert_in_order}
use Rattle.list_laws.proofs.LeastLemmas.{one_before, insert_in_order-after, insert_in_order-before}
use Rattle.list_laws.proofs.OrderedLemmas.{IsPermutation-insert_in_order}
use Rattle.list_laws.proofs.FrontLemmas.{list_any-front}
use Rattle.list_laws.proofs.SliceLemmas.{slice_get-last}
use Rattle.track_types.specs.ByFilter.{near_order}
use Rattle.track_types.specs.declared.cell.Cell.{Cell}
use Rattle.track_types.specs.declared.near.Near.{Near}
use Rattle.track_types.proofs.NearLemmas.{near_order_total}
use Rattle.nearest_search.specs.Cost.{is_no_farther, last_answer}
use Rattle.nearest_search.specs.Kept.{entry_near, kept_nears}

-- the order of ranks
abbrev pub rank_order : ℕ × ℕ → ℕ × ℕ → Ordering
rank_order a b = ordering_then (nat_cmp a.0 b.0) (nat_cmp a.1 b.1)

-- it is total
rank_order_total : IsTotalOrder rank_order
rank_order_total =
    then_total (on_total (λ (rank : ℕ × ℕ). rank.0) nat_cmp_total) (on_total (λ (rank : ℕ × ℕ). rank.1) nat_cmp_total)

-- a new entry is put where its object belongs
pub kept-insert : (near : Near) (entries : List ((ℕ × ℕ) × Cell))
    → list_any (eq_by_cmp near_order near) (kept_nears entries) ≡ false
    → kept_nears (insert_entry rank_order entries (near.dist2, near.object) near.cell)
    ≡ insert_in_order near_order near (kept_nears entries)
unfolding insert_in_order
kept-insert near [] apart = refl
kept-insert near (entry ∷ entries) apart =
    let alone = or_parts (eq_by_cmp near_order near (entry_near entry)) (list_any (eq_by_cmp near_order near) (kept_nears entries))
    apart in
    at (near_order near (entry_near entry)) refl (near_order_total.antisymm (entry_near entry) near) alone.0
    (kept-insert near entries alone.1)
  where
    at : (a : Ordering) → near_order near (entry_near entry) ≡ a
        → near_order (entry_near entry) near ≡ ordering_reverse (near_order near (entry_near entry))
        → eq_by_cmp near_order near (entry_near entry) ≡ false
        → kept_nears (insert_entry rank_order entries (near.dist2, near.object) near.cell)
        ≡ insert_in_order near_order near (kept_nears entries)
        → kept_nears (insert_entry rank_order (entry ∷ entries) (near.dist2, near.object) near.cell)
        ≡ insert_in_order near_order near (kept_nears (entry ∷ entries))
    at Less is back apart later = rw (is, back, is) refl
    at Equal is back apart later = let tied : true ≡ false = ap is_eq (sym is) ∙ apart in absurd (cc)
    at Greater is back apart later = rw (is, back, is) (ap (λ nears. entry_near entry ∷ nears) later)

-- with one more they are one more
pub length-insert_in_order : (near : Near) (nears : List Near) → length (insert_in_order near_order near nears) ≡ length nears + 1
length-insert_in_order near nears =
    length_permutation (near ∷ nears) (insert_in_order near_order near nears) (IsPermutation-insert_in_order near_order near nears)
    ∙ omega arith

module _ (wanted : ℕ) (near : Near) (entries : List ((ℕ × ℕ) × Cell)) where
  rank : ℕ × ℕ
  rank = (near.dist2, near.object)

  -- there is room for one more
  pub kept-room : length entries < wanted → list_any (eq_by_cmp near_order near) (kept_nears entries) ≡ false
      → kept_nears (insert_entry rank_order entries (near.dist2, near.object) near.cell)
      ≡ take wanted (insert_in_order near_order near (kept_nears entries))
  kept-room room apart =
      let few : length (insert_in_order near_order near (kept_nears entries)) ≤ wanted =
      omega (arith, room, length-insert_in_order near (kept_nears entries), length-map entries entry_near) in
      kept-insert near entries apart ∙ sym (take_all wanted (insert_in_order near_order near (kept_nears entries)) few)

  -- none is kept, since none is wanted
  pub kept-none : wanted ≤ length entries → length entries ≤ 0
      → kept_nears entries ≡ take wanted (insert_in_order near_order near (kept_nears entries))
  kept-none full empty =
      let none : entries ≡ [] = nil_from_length entries (omega (arith, empty)) in
      let zero_wanted : wanted ≡ 0 = omega (arith, full, empty) in
      ap kept_nears none ∙ ap (λ n. take n (insert_in_order near_order near (kept_nears entries))) (sym zero_wanted)

  module _ (full : wanted ≤ length entries) (few : length entries ≤ wanted) where
    -- all that are kept come before it
    pub kept-full : AllByRecursion (λ kept. is_lt (near_order kept near) ≡ true) (kept_nears entries)
        → kept_nears entries ≡ take wanted (insert_in_order near_order near (kept_nears entries))
    kept-full before =
        let as_many : length (kept_nears entries) ≡ wanted = omega (arith, full, few, length-map entries entry_near) in
        sym (ap (take wanted) (insert_in_order-after near_order near (kept_nears entries) before)
        ∙ take_at (kept_nears entries) (near ∷ []) wanted as_many)

    -- it comes before the last one, which gives way
    pub kept-instead : (others : List ((ℕ × ℕ) × Cell)) (last : (ℕ × ℕ) × Cell) → entries ≡ others ++ last ∷ []
        → is_lt (rank_order (near.dist2, near.object) last.0) ≡ true
        → list_any (eq_by_cmp near_order near) (kept_nears entries) ≡ false
        → kept_nears (insert_entry rank_order others (near.dist2, near.object) near.cell)
        ≡ take wanted (insert_in_order near_order near (kept_nears entries))
    kept-instead others last is before apart =
        let after : is_lt (near_order (entry_near last) near) ≡ false =
        (ranks_by near_order_total (λ (n : Near). n)).one_way near (entry_near last) before in
        let nears : kept_nears entries ≡ kept_nears others ++ entry_near last ∷ [] =
        ap kept_nears is ∙ map-append entry_near others (last ∷ []) in
        let alone : list_any (eq_by_cmp near_order near) (kept_nears others) ≡ false =
        list_any-front (eq_by_cmp near_order near) (kept_nears others) (entry_near last ∷ [])
        (ap (list_any (eq_by_cmp near_order near)) (sym nears) ∙ apart) in
        let as_many : length (insert_in_order near_order near (kept_nears others)) ≡ wanted =
        omega (
          arith,
          full,
          few,
          ap length is,
          length-append others (last ∷ []),
          length-insert_in_order near (kept_nears others),
          length-map others entry_near,
        ) in
        kept-insert near others alone
        ∙ sym (ap (λ ns. take wanted (insert_in_order near_order near ns)) nears
        ∙ ap (take wanted) (insert_in_order-before near_order near (entry_near last) (kept_nears others) after)
        ∙ take_at (insert_in_order near_order near (kept_nears others)) (entry_near last ∷ []) wanted as_many)

-- a number is 0 where more than 0 is refused
pub at-most-none : (n : ℕ) → (0 < n → false ≡ true) → n ≤ 0
at-most-none zero some = omega arith
at-most-none (suc n) some = let never : false ≡ true = some (omega arith) in absurd (cc)

-- nothing is not something
pub absurd-none : {X P : Type 0} (o : Option X) → o ≡ None → IsSome o → P
absurd-none None is some = absurd (cc)
absurd-none (Some x) is some = absurd (cc)

-- the last entry was taken off
pub kept-popped : (wanted : ℕ) (near : Near) (entries : List ((ℕ × ℕ) × Cell)) → wanted ≤ length entries
    → length entries ≤ wanted → (others : List ((ℕ × ℕ) × Cell)) (popped : Option ((ℕ × ℕ) × Cell)) (rank : ℕ × ℕ) (cell : Cell)
    → IfSome popped (λ last. entries ≡ others ++ last ∷ []) → (0 < length entries → IsSome popped)
    → slice_get entries (length entries - 1) ≡ Some (rank, cell)
    → is_lt (rank_order (near.dist2, near.object) rank) ≡ true
    → list_any (eq_by_cmp near_order near) (kept_nears entries) ≡ false
    → kept_nears (insert_entry rank_order others (near.dist2, near.object) near.cell)
    ≡ take wanted (insert_in_order near_order near (kept_nears entries))
kept-popped wanted near entries full few others None rank cell removed some at before apart =
    let within : length entries - 1 < length entries = slice_get_within entries (length entries - 1) (rank, cell) at in
    let none : Option ((ℕ × ℕ) × Cell) = None in
    absurd-none none refl (some (omega (arith, within)))
kept-popped wanted near entries full few others (Some last) rank cell removed some at before apart =
    let same : last ≡ (rank, cell) = slice_get-last others last (rank, cell)
    (ap (λ (es : List ((ℕ × ℕ) × Cell)). slice_get es (length es - 1)) (sym removed) ∙ at) in
    kept-instead wanted near entries full few others last removed
    (ap (λ (e : (ℕ × ℕ) × Cell). is_lt (rank_order (near.dist2, near.object) e.0)) same ∙ before) apart

-- what comes not before the last one, and ties with none, comes after all
pub all-before : (near : Near) (last : ℕ × ℕ) (entries : List ((ℕ × ℕ) × Cell))
    → is_lt (rank_order (near.dist2, near.object) last) ≡ false
    → AllByRecursion (λ rank. is_lt (rank_order last rank) ≡ false) (map (λ (e : (ℕ × ℕ) × Cell). e.0) entries)
    → list_any (eq_by_cmp near_order near) (kept_nears entries) ≡ false
    → AllByRecursion (λ kept. is_lt (near_order kept near) ≡ true) (kept_nears entries)
all-before near last [] after up apart = tt
all-before near last (entry ∷ entries) after up apart =
    let alone = or_parts (eq_by_cmp near_order near (entry_near entry)) (list_any (eq_by_cmp near_order near) (kept_nears entries))
    apart in
    let not_before : is_lt (near_order near (entry_near entry)) ≡ false =
    (ranks_by rank_order_total (λ (r : ℕ × ℕ). r)).chain (near.dist2, near.object) last entry.0 after up.0 in (
      one_before near_order near_order_total near (entry_near entry) alone.0 not_before,
      all-before near last entries after up.1 alone.1,
    )

-- as many are kept, and this is the last of them
pub room-last : (wanted dist2 : ℕ) (entries : List ((ℕ × ℕ) × Cell)) (rank : ℕ × ℕ) (cell : Cell)
    → wanted ≤ length entries → length entries ≤ wanted
    → slice_get entries (length entries - 1) ≡ Some (rank, cell)
    → is_no_farther (last_answer wanted (kept_nears entries)) dist2 ≡ nat_le dist2 rank.0
room-last wanted dist2 entries rank cell full few last =
    let same : wanted ≡ length entries = omega (arith, full, few) in
    ap (λ o. is_no_farther o dist2)
    (ap (λ n. slice_get (kept_nears entries) (n - 1)) same
    ∙ slice_get-map entry_near entries (length entries - 1) ∙ ap (option_map entry_near) last)
