use Rattle.std.proofs.Common.{◌≡◌, length, min, take, drop, ap, ◌∙◌, arith}
use Rattle.std.proofs.lemmas.List.{take_min}
use Rattle.live_tail.proofs.CutLemmas.{drop_min}
use Rattle.live_tail.proofs.chunk.cut.Goals as goal

pub returns-clause-front : goal.returns-clause-front
returns-clause-front c =
    let least : c.min.result ≡ min c.args.count (length c.args.rows.now) = omega arith in
    c.split_at.ensures.front ∙ ap (λ n. take n c.args.rows.now) least ∙ take_min c.args.count c.args.rows.now

pub returns-clause-back : goal.returns-clause-back
returns-clause-back c =
    let least : c.min.result ≡ min (length c.args.rows.now) c.args.count = omega arith in
    c.split_at.ensures.back ∙ ap (λ n. drop n c.args.rows.now) least ∙ drop_min c.args.count c.args.rows.now
