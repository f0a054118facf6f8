-- What runs of calls of `next` give, for the items of a walk.
use Rattle.std.proofs.Common.{ℕ, Bool, List, [], ◌∷◌, length, refl, ap, subst, ◌∙◌, arith}
use Rattle.std.specs.Iterator.Runs.{YieldsInOrder}
use Rattle.std.proofs.iter.runs.Sources.{as_is, from_front}
use Rattle.step_count.specs.Reads.{Read}
use Rattle.track_types.specs.Lazy.{DrawsAlong, DrawsFirst, DrawsWithin, drawn_left}
use Rattle.track_types.specs.declared.lazy.drawn_items.Drawn.{Drawn}

module _ {W L A : Type 0} (left : W → List A) (budget : W → ℕ) (needs : W → Read → Bool) where
  pub drawn_runs : YieldsInOrder (DrawsFirst {W = W} {L = L} left budget needs) (drawn_left left)
  drawn_runs p s = as_is p (drawn_left left p.from) (from_front (DrawsFirst {W = W} {L = L} left budget needs)
      (λ x. x) (drawn_left left) (λ s t h. ap length h.0.0) (λ s x t h. h.0) p s)

  within-same : (items : Drawn W L) → DrawsWithin left budget needs items items
  within-same items = record { cost = omega arith; lenders = refl; within = λ read needed. needed }

  within-joined : (old mid new : Drawn W L) → DrawsWithin left budget needs old mid → DrawsWithin left budget needs mid new → DrawsWithin left budget needs old new
  within-joined old mid new first rest = record {
    cost = omega (arith, first.cost, rest.cost);
    lenders = rest.lenders ∙ first.lenders;
    within = λ read needed. first.within read (rest.within read needed);
  }

  pub drawn_along : (first : Drawn W L) → DrawsAlong left budget needs first
  drawn_along first [] later same = subst (DrawsWithin left budget needs first) same (within-same first)
  drawn_along first (x ∷ xs) later steps =
      within-joined first steps.0 later steps.1.1 (drawn_along steps.0 xs later steps.2)
