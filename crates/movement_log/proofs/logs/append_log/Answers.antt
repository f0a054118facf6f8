use Rattle.std.proofs.Common.{◌≡◌, ◌+◌, ◌-◌, ◌<◌, ◌++◌, [], ◌∷◌, ℕ, List, length, map, replicate, take, append_assoc, arith, refl, sym, subst, ◌∙◌, ap, false}
use Rattle.std.specs.List.{range_with_len}
use Rattle.std.proofs.lemmas.Int.{ints}
use Rattle.std.proofs.lemmas.List.{append-nil}
use Rattle.movement_log.proofs.BlockLemmas.{rows-in_span}
use Rattle.track_types.specs.Row.{IsAscending}
use Rattle.movement_log.specs.Blocks.{is_in_log, log_length_of, no_row, row_at}
use Rattle.movement_log.specs.Values.{move_value}
use Rattle.movement_log.proofs.LogLemmas.{log_last, log_next, offset-some, resized, ring_of-extent, value_after}
use Rattle.movement_log.proofs.logs.append_log.Goals as goal
use Rattle.movement_log.proofs.logs.append_log.Goals.{then-loop-last-test+else-is_in_log, else-loop-last-test}

pub log_length-len-requires : goal.log_length-len-requires
log_length-len-requires c =
    record { inside = rw c.rows-rows.ensures.value (rows-in_span c.args.chart.now.rows c.args.at no_row c.requires) }

pub loop-last-init : goal.loop-last-init
loop-last-init c = record {
  log = [];
  values = sym (append-nil c.args.values.now.items);
  is = record { within = omega (arith, c.requires, ap length c.rows-rows.ensures.value); same = refl; at = omega (arith, ints); short = omega arith; values = refl };
}

pub overflow_sub-instants_between : goal.overflow_sub-instants_between
overflow_sub-instants_between c =
    let rows = c.rows-rows.result.now in
    let up : IsAscending rows = subst IsAscending (sym c.rows-rows.ensures.value) c.rows-rows.ensures.chart.ascending in
    let is = sym c.is_in_log.ensures ∙ c.if-is_in_log.true in
    let some = offset-some rows up (row_at rows c.args.at) c.log_length-len.result c.loop-last.last c.loop-last.invariant.log
    c.loop-last.invariant.is c.loop-last-test.true is in
    omega (arith, some, c.instants_between.ensures)

pub move_value-requires : goal.move_value-requires
move_value-requires c =
    let rows = c.rows-rows.result.now in
    ring_of-extent rows c.loop-last.last (c.loop-last.last + 1) c.loop-last.invariant.is.within c.loop-last-test.true
    (rw c.rows-rows.ensures.value c.rows-rows.ensures.chart.extent)

pub loop-last-preserved : goal.loop-last-preserved
loop-last-preserved c =
    let rows = c.rows-rows.result.now in
    let anchor = row_at rows c.args.at in
    let last : ℕ = c.loop-last.last in
    let before : List ℕ = c.args.values.now.items in
    let log : List ℕ = c.loop-last.invariant.log in
    let up : IsAscending rows = subst IsAscending (sym c.rows-rows.ensures.value) c.rows-rows.ensures.chart.ascending in
    let is = sym c.is_in_log.ensures ∙ c.if-is_in_log.true in
    let count : ℕ = c.instants_between.result - 1 in
    let filled : List ℕ = take count log ++ replicate (count - length log) 0 in
    let move : ℕ = move_value (row_at rows last).cell (row_at rows (last + 1)).cell in
    let start : c.len-start.result ≡ length before = omega arith in
    let size : c.loop-last.values.len ≡ length c.loop-last.values.items = omega arith in
    let sized = rw (size, c.loop-last.invariant.values, start) at c.in_ok-resize.ensures.items in
    let room : c.resize.new.self.items ≡ before ++ filled = sized ∙ resized before log count in
    record {
      log = filled ++ move ∷ [];
      values = c.in_ok-push.ensures.items ∙ ap (λ value. c.resize.new.self.items ++ value ∷ []) c.move_value.ensures
          ∙ ap (λ all. all ++ move ∷ []) room ∙ append_assoc before filled (move ∷ []);
      is = log_next rows up anchor c.log_length-len.result last log c.loop-last.invariant.is c.loop-last-test.true is
          filled (ap (λ n. take (n - 1) log ++ replicate (n - 1 - length log) 0) c.instants_between.ensures);
    }

pub returns : goal.returns
returns c =
    let rows = c.rows-rows.result.now in
    let anchor = row_at rows c.args.at in
    let before : List ℕ = c.args.values.now.items in
    let log : List ℕ = c.loop-last.invariant.log in
    let len : ℕ = c.log_length-len.result in
    let up : IsAscending rows = subst IsAscending (sym c.rows-rows.ensures.value) c.rows-rows.ensures.chart.ascending in
    let past : c.loop-last.last + 1 < length rows → is_in_log len anchor (row_at rows (c.loop-last.last + 1)) ≡ false =
    λ within. elim c.loop-last-test.branch [
      | then-loop-last-test+else-is_in_log w ↦ sym w.is_in_log.ensures ∙ w.if-is_in_log.false
      | else-loop-last-test w ↦ absurd (omega (arith, w.loop-last-test.false))
    ] in
    let last = log_last rows up anchor len c.loop-last.last log c.loop-last.invariant.is past in
    let start : c.len-start.result ≡ length before = omega arith in
    let size : c.loop-last.values.len ≡ length c.loop-last.values.items = omega arith in
    let chart = c.args.chart.now in
    let sized = rw (size, c.loop-last.invariant.values, start) at c.in_ok-resize-2.ensures.items in
    sized ∙ resized before log len
    ∙ ap (λ values. before ++ values) (last ∙ ap (λ len. map (value_after rows anchor) (range_with_len 1 len)) c.log_length-len.ensures
    ∙ ap (λ all. map (value_after all (row_at all c.args.at)) (range_with_len 1 (log_length_of chart (row_at all c.args.at)))) c.rows-rows.ensures.value)
