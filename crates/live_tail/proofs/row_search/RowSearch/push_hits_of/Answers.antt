use Rattle.std.proofs.Common.{◌≡◌, ◌++◌, ◌+◌, ◌-◌, ◌∷◌, [], ℕ, List, true, false, length, take, get_or, subst, sym, ap, ◌∙◌, arith, rules}
use Rattle.std.specs.Prelude.{slice_get}
use Rattle.std.specs.Option.{option_copied}
use Rattle.std.proofs.lemmas.List.{append-nil, append_assoc, take_more}
use Rattle.track_types.specs.Near.{IsCellWithin}
use Rattle.track_types.specs.declared.hit.Hit.{Hit}
use Rattle.track_types.specs.declared.row.Row.{Row}
use Rattle.live_tail.specs.Hits.{HaveFirst, is_passed}
use Rattle.live_tail.specs.SmallRows.{rows_in}
use Rattle.live_tail.specs.declared.small_row.SmallRow.{SmallRow}
use Rattle.live_tail.proofs.ChunkLemmas.{have-more, have-pushed, passed-any}
use Rattle.live_tail.proofs.InstantLemmas.{no_row}
use Rattle.live_tail.proofs.SmallLemmas.{all-taken, below-map, no_small, row-at}
use Rattle.live_tail.proofs.row_search.RowSearch.push_hits_of.Goals as goal
use Rattle.live_tail.proofs.row_search.RowSearch.push_hits_of.Goals.{then-has+then-not-is_passed+in_ok-push, else-has, else-has-via-then-has+else-not-is_passed, else-has-via-else-has}

pub loop-small-init : goal.loop-small-init
loop-small-init c = λ before have.
    subst (λ rows. HaveFirst rows c.args.self.now.from c.args.self.now.to c.args.self.now.region.now c.args.found.now.items)
    (sym (append-nil before)) have

pub has-requires-clause-near : goal.has-requires-clause-near
has-requires-clause-near c =
    let smalls : List SmallRow = c.args.rows.rows.now in
    let i : ℕ = c.loop-small.small-index in
    subst (λ (row : Row). IsCellWithin row.cell)
    (sym (c.row-row.ensures ∙ row-at c.args.rows.origin smalls i no_small no_row c.loop-small-test.true))
    (c.requires.near i no_row (below-map c.args.rows.origin smalls i c.loop-small-test.true))

pub loop-small-preserved : goal.loop-small-preserved
loop-small-preserved c = λ before have.
    let self = c.args.self.now in
    let rows : List Row = rows_in c.args.rows in
    let smalls : List SmallRow = c.args.rows.rows.now in
    let i : ℕ = c.loop-small.small-index in
    let row : Row = c.row-row.result in
    let is : row ≡ get_or rows i no_row =
    c.row-row.ensures ∙ row-at c.args.rows.origin smalls i no_small no_row c.loop-small-test.true in
    let found : List Hit = c.loop-small.found.items in
    let done : List Row = before ++ take i rows in
    let so_far : HaveFirst done self.from self.to self.region.now found = c.loop-small.invariant before have in
    let next : done ++ row ∷ [] ≡ before ++ take (i + 1) rows =
    append_assoc before (take i rows) (row ∷ [])
    ∙ ap (λ row. before ++ (take i rows ++ row ∷ [])) is
    ∙ ap (λ zs. before ++ zs) (sym (take_more rows i no_row (below-map c.args.rows.origin smalls i c.loop-small-test.true))) in
    subst (λ zs. HaveFirst zs self.from self.to self.region.now c.if-has.found.items) next (elim c.if-has.branch [
      | then-has+then-not-is_passed+in_ok-push w ↦
          subst (HaveFirst (done ++ row ∷ []) self.from self.to self.region.now)
          (sym (ap (λ found. found.items) w.found-is ∙ w.in_ok-push.ensures.items ∙ ap (λ hit. found ++ hit ∷ []) w.hit_of.ensures))
          (have-pushed self.from self.to self.region.now done row found so_far (sym c.has.ensures ∙ w.if-has.true))
      | else-has w ↦
          subst (HaveFirst (done ++ row ∷ []) self.from self.to self.region.now) (sym (ap (λ found. found.items) w.found-is))
          (have-more self.from self.to self.region.now done row found so_far (λ meets. elim w.else-has.branch [
            | else-has-via-then-has+else-not-is_passed v ↦
                let last : option_copied v.last.result ≡ slice_get found (length found - 1) = search rules in
                let passed : v.is_passed.result ≡ true = grind (arith, v.if-not-is_passed.false) in
                passed-any row found (length found - 1) (ap (is_passed row) (sym last) ∙ sym v.is_passed.ensures ∙ passed)
            | else-has-via-else-has v ↦ let never : true ≡ false = sym meets ∙ sym c.has.ensures ∙ v.if-has.false in absurd (cc)
          ]))
    ])

pub returns : goal.returns
returns c = λ before have.
    subst (λ rows. HaveFirst (before ++ rows) c.args.self.now.from c.args.self.now.to c.args.self.now.region.now c.loop-small.found.items)
    (all-taken c.args.rows.origin c.args.rows.rows.now c.loop-small.small-index c.loop-small-test.false) (c.loop-small.invariant before have)
