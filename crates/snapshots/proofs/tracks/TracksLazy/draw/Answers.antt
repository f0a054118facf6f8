use Rattle.std.proofs.Common.{◌≡◌, [], ◌++◌, Some, IfNone, ap, sym, subst, ◌∙◌, arith, option_to_list}
use Rattle.snapshots.specs.TrackWalk.{blocks_budget, blocks_left}
use Rattle.snapshots.proofs.TracksLemmas.{tracks_budget-is, tracks_left-is}
use Rattle.snapshots.proofs.tracks.TracksLazy.draw.Goals as goal

pub returns-in-Some-clause-found : goal.returns-in-Some-clause-found
returns-in-Some-clause-found g c =
    let squares = g.S.Search.squares in
    let boxes = g.S.Search.boxes in
    tracks_left-is squares boxes c.args.self.now ∙ ap (blocks_left squares boxes) c.in-Some.is ∙ c.draw.ensures.found
    ∙ ap (λ xs. option_to_list c.draw.result ++ xs)
    (sym (tracks_left-is squares boxes (record { walk = Some c.draw.new.self })))

pub returns-in-Some-clause-none : goal.returns-in-Some-clause-none
returns-in-Some-clause-none g c =
    let squares = g.S.Search.squares in
    let boxes = g.S.Search.boxes in
    subst (λ xs. IfNone c.draw.result (xs ≡ []))
    (sym (tracks_left-is squares boxes c.args.self.now ∙ ap (blocks_left squares boxes) c.in-Some.is)) c.draw.ensures.none

pub returns-in-Some-clause-cost : goal.returns-in-Some-clause-cost
returns-in-Some-clause-cost g c =
    let squares = g.S.Search.squares in
    let boxes = g.S.Search.boxes in
    let old = tracks_budget-is squares boxes c.args.self.now ∙ ap (blocks_budget squares boxes) c.in-Some.is in
    omega (
      arith,
      c.draw.ensures.cost,
      old,
      tracks_budget-is squares boxes (record { walk = Some c.draw.new.self }),
    )

pub returns-in-None-clause-none : goal.returns-in-None-clause-none
returns-in-None-clause-none g c =
    tracks_left-is g.S.Search.squares g.S.Search.boxes c.args.self.now
    ∙ ap (blocks_left g.S.Search.squares g.S.Search.boxes) c.in-None.is
