use Rattle.std.proofs.Common.{◌≡◌, ◌<◌, ◌++◌, ◌∷◌, [], ℕ, List, length, drop, get_or, take, arith, refl, sym, ◌∙◌, ap}
use Rattle.std.proofs.Math.ListN.{get_or-map}
use Rattle.std.proofs.lemmas.List.{length-map, take_all, take_more}
use Rattle.movement_log.specs.Logs.{logs_of}
use Rattle.movement_log.proofs.CutLemmas.{log_behind, log_fits, log_front}
use Rattle.movement_log.proofs.cutting.cut.Goals as goal

pub loop-len-init : goal.loop-len-init
loop-len-init c = record {
  logs = c.in_ok-logs.ensures.items;
  rest = c.as_slice-rest.ensures ∙ ap (λ logs. logs.terminals) c.in_ok-joined.ensures.ok;
}

pub split_at-requires : goal.split_at-requires
split_at-requires c =
    let logs : List (List ℕ) = (logs_of c.args.chart.now).terminals in
    let i : ℕ = c.loop-len.len-index in
    let lengths = c.as_slice-len-items.ensures ∙ ap (λ logs. logs.lengths) c.in_ok-joined.ensures.ok in
    let within : i < length logs = omega (arith, c.loop-len-test.true, ap length lengths, length-map logs length) in
    let long = ap (λ all. get_or all i 0) lengths ∙ get_or-map length logs i [] in
    rw c.loop-len.invariant.rest (log_fits logs i (get_or c.as_slice-len-items.result.now i 0) within long)

pub loop-len-preserved : goal.loop-len-preserved
loop-len-preserved c =
    let logs : List (List ℕ) = (logs_of c.args.chart.now).terminals in
    let i : ℕ = c.loop-len.len-index in
    let lengths = c.as_slice-len-items.ensures ∙ ap (λ logs. logs.lengths) c.in_ok-joined.ensures.ok in
    let len : ℕ = get_or c.as_slice-len-items.result.now i 0 in
    let within : i < length logs = omega (arith, c.loop-len-test.true, ap length lengths, length-map logs length) in
    let long = ap (λ all. get_or all i 0) lengths ∙ get_or-map length logs i [] in
    let front : c.new.result ≡ get_or logs i [] =
    c.new.ensures ∙ c.in_ok-to_vec.ensures.items_if_clones_equal (λ x y same. same) ∙ c.split_at.ensures.front
    ∙ ap (take len) c.loop-len.invariant.rest ∙ log_front logs i len within long in
    record {
      logs = c.in_ok-push.ensures.items ∙ ap (λ log. c.loop-len.logs.items ++ log ∷ []) front
          ∙ ap (λ all. all ++ get_or logs i [] ∷ []) c.loop-len.invariant.logs ∙ sym (take_more logs i [] within);
      rest = c.split_at.ensures.back ∙ ap (drop len) c.loop-len.invariant.rest ∙ log_behind logs i len within long;
    }

pub returns : goal.returns
unfolding logs_of
returns c =
    let logs : List (List ℕ) = (logs_of c.args.chart.now).terminals in
    let is = c.in_ok-joined.ensures.ok in
    let lengths = c.as_slice-len-items.ensures ∙ ap (λ logs. logs.lengths) is in
    let whole : take c.loop-len.len-index logs ≡ logs =
    take_all c.loop-len.len-index logs (omega (arith, c.loop-len-test.false, ap length lengths, length-map logs length)) in
    let terminals : c.new-2.result ≡ logs = c.new-2.ensures ∙ c.loop-len.invariant.logs ∙ whole in
    record { ok = rw (ap (λ logs. logs.alphabet) is, ap (λ logs. logs.heads) is, terminals) refl }
