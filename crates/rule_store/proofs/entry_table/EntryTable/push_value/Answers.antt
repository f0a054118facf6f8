use Rattle.std.proofs.Common.{◌≡◌, ℕ, ◌+◌, ◌*◌, ◌<◌, ◌≤◌, ◌∷◌, [], false, length, arith, subst, sym, ◌∙◌, ap}
use Rattle.std.specs.Prelude.{not}
use Rattle.spiral_code.specs.Spiral.{ring_of, square}
use Rattle.rule_store.specs.Flaws.{leads_out, reach_limit}
use Rattle.rule_store.specs.Stored.{entries_of, AreEntries, IsEntryOf, IsPackedEntry}
use Rattle.rule_store.proofs.ExpansionLemmas.{depth_of-terminal, values_of-terminal}
use Rattle.rule_store.proofs.FlawLemmas.{box_passes-higher, leads_out-above, leads_out-below, reach_limit-high}
use Rattle.rule_store.proofs.StoredLemmas.{entries-more, terminal-box, terminal-reach}
use Rattle.rule_store.proofs.entry_table.EntryTable.push_value.Goals as goal
use Rattle.rule_store.proofs.entry_table.EntryTable.push_value.Goals.{After-terminal_entry-entry}

pub returns-then-value-side-clause-judged : goal.returns-then-value-side-clause-judged
returns-then-value-side-clause-judged c =
    let height = c.args.self.now.height in
    let above : square (2 * reach_limit height + 1) < c.args.value = rw (sym c.reach_limit.ensures.value) c.if-value-side.true in
    ap not (sym (leads_out-above height c.args.value above))

short : (c : After-terminal_entry-entry) → leads_out c.args.self.now.height c.args.value ≡ false
short c =
    let height = c.args.self.now.height in
    let below : c.args.value ≤ square (2 * reach_limit height + 1) = rw (sym c.reach_limit.ensures.value) c.if-value-side.false in
    leads_out-below height c.args.value below

pub pack-requires-clause-near : goal.pack-requires-clause-near
pack-requires-clause-near c =
    let height = c.args.self.now.height in
    let is = short (goal.at.pack-requires-clause-near c).After-terminal_entry-entry in
    let near : ring_of c.terminal_entry-entry.result.dx c.terminal_entry-entry.result.dy ≤ reach_limit height =
    rw c.terminal_entry-entry.ensures (terminal-reach height c.len.result c.args.value is) in
    omega (arith, near, reach_limit-high height c.args.self.now.height_fits)

pub pack-requires-clause-within : goal.pack-requires-clause-within
pack-requires-clause-within c =
    let height = c.args.self.now.height in
    let is = short (goal.at.pack-requires-clause-within c).After-terminal_entry-entry in
    box_passes-higher height c.terminal_entry-entry.result.hull c.args.self.now.height_fits
    (rw c.terminal_entry-entry.ensures (terminal-box height c.len.result c.args.value is))

pub returns-clause-judged : goal.returns-clause-judged
returns-clause-judged c = ap not (sym (short (goal.at.returns-clause-judged c).After-terminal_entry-entry))

pub returns-clause-entries : goal.returns-clause-entries
returns-clause-entries c = λ taken view known within is.
    let place : ℕ = length (entries_of c.args.self.now.entries) in
    let packed : IsPackedEntry (c.args.value ∷ []) c.pack.result =
    c.pack.ensures.packed c.len.result (c.args.value ∷ []) c.terminal_entry-entry.ensures in
    let here : IsEntryOf view place c.pack.result = record {
      values = subst (λ values. IsPackedEntry values c.pack.result)
          (sym (values_of-terminal view place within ∙ ap (λ value. value ∷ []) is)) packed;
      depth = c.pack.ensures.depth ∙ sym (depth_of-terminal view place within);
      shallow = omega (arith, c.pack.ensures.depth);
    } in
    record {
      height = known.height;
      period = known.period;
      entries = subst (AreEntries view) (sym c.in_ok-push.ensures)
          (entries-more view (entries_of c.args.self.now.entries) c.pack.result known.entries here);
    }
