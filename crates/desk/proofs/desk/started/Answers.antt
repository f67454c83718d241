use Rattle.std.proofs.Common.{◌∷◌, ◌≤◌, List, ℕ, length, ap, sym, subst, arith}
use Rattle.home_index.specs.Rows as homes
use Rattle.tree_log.proofs.Admitted.{few_of}
use Rattle.tree_log.specs.Admits.{AreAdmitted}
use Rattle.tree_log.specs.Tree.{Tree}
use Rattle.tree_log.specs.declared.entry.Entry.{Entry}
use Rattle.desk.specs.History.{log_of}
use Rattle.desk.proofs.Starting.{page_fits, start_follows, start_is, start_keeps}
use Rattle.desk.proofs.desk.started.Goals as goal

pub make_start_entry-requires-clause-few : goal.make_start_entry-requires-clause-few
make_start_entry-requires-clause-few g c =
    let n = ap (λ (t : Tree). t.docs) c.requires.rows.tree_is in
    let few = (few_of (log_of c.args.ledger.now.history)).docs in
    let short = c.log-log.ensures.few in
    omega arith

pub make_start_entry-requires-clause-homes : goal.make_start_entry-requires-clause-homes
make_start_entry-requires-clause-homes g c = record {
  log = log_of c.args.ledger.now.history;
  tree = c.requires.rows.tree_is;
  admitted = c.log-log.ensures.admitted;
  fed = subst (λ (s : List (List ℕ)). homes.IsFed s c.args.rows.now.homes (log_of c.args.ledger.now.history)) (sym c.suffixes.ensures) c.requires.rows.homed;
}

pub feed-requires-clause-admitted : goal.feed-requires-clause-admitted
feed-requires-clause-admitted g c =
    let log = log_of c.args.ledger.now.history in
    let is =
    start_is c.args.ledger.now.rules c.renderers.result c.suffixes.result.now (g.V.View.tree c.args.rows.now.view) log c.args.url c.in_ok-entry.entry
    c.in_ok-entry.ensures c.requires.rows.tree_is c.renderers.ensures.value c.suffixes.ensures in
    let few = c.log-log.ensures.few in
    subst (λ (es : List Entry). AreAdmitted (c.in_ok-entry.entry ∷ es)) (sym c.log-log.ensures.entries) (
      start_follows c.args.ledger.now.rules log c.args.url c.in_ok-entry.entry is (omega arith),
      c.log-log.ensures.admitted,
    )

pub returns-in-Ok-clause-admitted : goal.returns-in-Ok-clause-admitted
returns-in-Ok-clause-admitted g c =
    let log = log_of c.args.ledger.now.history in
    let is =
    start_is c.args.ledger.now.rules c.renderers.result c.suffixes.result.now (g.V.View.tree c.args.rows.now.view) log c.args.url c.in_ok-entry.entry
    c.in_ok-entry.ensures c.requires.rows.tree_is c.renderers.ensures.value c.suffixes.ensures in
    let few = c.log-log.ensures.few in
    start_follows c.args.ledger.now.rules log c.args.url c.in_ok-entry.entry is (omega arith)

pub returns-in-Ok-clause-fit : goal.returns-in-Ok-clause-fit
returns-in-Ok-clause-fit g c =
    let log = log_of c.args.ledger.now.history in
    let is =
    start_is c.args.ledger.now.rules c.renderers.result c.suffixes.result.now (g.V.View.tree c.args.rows.now.view) log c.args.url c.in_ok-entry.entry
    c.in_ok-entry.ensures c.requires.rows.tree_is c.renderers.ensures.value c.suffixes.ensures in
    let few = c.log-log.ensures.few in
    let page = c.as_str-text.ensures in
    let small : length c.args.url ≤ 1024 = subst (λ (text : List ℕ). length text ≤ 1024) page.spelled.2 page.spelled.1.small in
    start_keeps c.args.ledger.now.rules log c.args.url c.in_ok-entry.entry is (page_fits c.args.url page.page page.ascii small) (omega arith)
