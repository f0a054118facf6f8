-- A value of no bytes is made, and its list is empty.
use Rattle.history.proofs.Steps.{[], ◌∷◌, refl, Val, vstruct, vcons, vnil, proved, tables, raw, ◌$◌, ◌∵◌, !, qed, keep, join, suffices, done, agg, enter, no_more, and_then, returns, alloc_all, pass_all, free_all, look_at, get, sets, pure_i, nothing, on_entry, says, ends_at}
use Rattle.history.specs.declared.ghost_loads.GhostLoads.{GhostLoads}
use Rattle.history.specs.contracts.ghost_loads.GhostLoads as struct
use Rattle.history.specs.contracts.ghost_loads.GhostLoads.new as f
use Rattle.history.proofs.ghost_loads.GhostLoads.new.Statement.{statement}
use Rattle.history.proofs.ghost_loads.GhostLoads.new.Code as code

-- the struct as the machine has it: its one field is an empty struct
abbrev made : Val
made = vstruct (vcons (vstruct vnil) vnil)

abbrev value : GhostLoads
value = record { marker = record {}; loads = [] }

pub new_spec : {M : Type 1} → statement M
new_spec 𝓤 𝓛 𝓜 𝓡 wired =
    let c = f.clauses 𝓛 𝓜.mem 𝓡.returns in
    proved 𝓛 f.ended tt c 𝓜 𝓡 tt f.Key.name code.function (code.unfolded 𝓤 𝓛.H 𝓜 𝓡 wired) (λ κs. tt) (λ κs. tt) (λ κs qs bounds a g are.
    qed 𝓛 (raw (on_entry 𝓛 f.signature κs qs a tt) ∷ raw ((c κs a).requires g) ∷ []) ∵ keep ! [] $
    enter ! _ _ _ _ _ $ alloc_all ! (λ l. pass_all ! refl tt $
    sets ! (agg ! (no_more !)) refl (tt, tt) $
    sets ! (agg ! (and_then ! (get ! refl) (no_more !))) refl (tt, (tt, tt)) $
    returns ! (look_at ! 0 refl) $ free_all ! refl $
    pure_i ! ((struct.the_row).own_val value (made ∷ [])) ((λ vss. (tt, ((λ uss. (tt, tt)), tt))), tt) (((vstruct vnil ∷ [], tt), (refl, ((tt, (refl, tt)), tt))), tt) $
    suffices ! _ (ends_at 𝓛 f.ended tt c ((κs, qs, bounds, a, tt), g) made value tt tt) $ says ! refl $
    nothing ! $ join ! $ nothing ! $ done !))
