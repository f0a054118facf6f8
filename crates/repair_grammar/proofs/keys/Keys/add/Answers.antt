use Rattle.std.proofs.Common.{◌+◌, arith}
use Rattle.std.proofs.lemmas.Bool.{lt-ltb}
use Rattle.std.proofs.lemmas.List.Sorted.{Contains-permutation, sum_by_pushed}
use Rattle.std.specs.BinaryHeap.{heap_items}
use Rattle.list_laws.proofs.MemberLemmas.{first_member, later_member}
use Rattle.repair_grammar.proofs.keys.Keys.add.Goals as goal

pub returns-in_ok-push-clause-kept : goal.returns-in_ok-push-clause-kept
returns-in_ok-push-clause-kept c = λ other inside.
    Contains-permutation _ _ other c.in_ok-push.ensures.permutation (later_member other c.args.key _ inside)

pub returns-in_ok-push-clause-added : goal.returns-in_ok-push-clause-added
returns-in_ok-push-clause-added c = λ two.
    Contains-permutation _ _ c.args.key c.in_ok-push.ensures.permutation (first_member c.args.key _)

pub returns-in_ok-push-clause-sum : goal.returns-in_ok-push-clause-sum
returns-in_ok-push-clause-sum c = rw (lt-ltb 1 c.args.key.count c.if-key-gt1.true) (omega (
  arith,
  sum_by_pushed (λ key. key.count + 1) c.args.key (heap_items c.args.self.now.heap) (heap_items c.push.new.self)
      c.in_ok-push.ensures.permutation,
))
