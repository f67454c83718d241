use Rattle.std.proofs.Common.{arith, rules, ◌≡◌, false}
use Rattle.indexed_view.specs.Marks.{marked}
use Rattle.indexed_view.proofs.Marking.{count_new, count_lt}
use Rattle.indexed_view.proofs.marks.mark.Goals as goal

pub push_reserved-requires : goal.push_reserved-requires
push_reserved-requires c =
    let fresh : marked c.args.marks.now.items c.args.nav ≡ false = search rules in
    let lt = count_lt c.args.marks.now.items c.args.nav c.requires.nav fresh in
    grind (arith, lt)

pub returns-then-not-index-clause-few : goal.returns-then-not-index-clause-few
returns-then-not-index-clause-few c =
    let fresh : marked c.args.marks.now.items c.args.nav ≡ false = search rules in
    let more = count_new c.args.marks.now.items c.args.nav c.requires.nav fresh in
    grind (arith, more)
