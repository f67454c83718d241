use Rattle.std.proofs.Common.{◌≡◌, ◌∙◌, ap, sym, subst, arith, true}
use Rattle.tree_log.specs.declared.entry.Entry.{Entry}
use Rattle.tree_log.specs.Tree.{Tree, tree_of}
use Rattle.tree_log.specs.Admits.{admits}
use Rattle.coordinator_rules.specs.Decision.{rules_of}
use Rattle.single_agent.specs.Session.{start_entry}
use Rattle.single_agent.proofs.Admitted.{start_admitted}
use Rattle.session_player.specs.Quiet.{is_quiet}
use Rattle.session_player.proofs.Asking.{few_docs}
use Rattle.session_player.proofs.desk.Desk.start.Goals as goal

pub start_entry-requires-clause-few : goal.start_entry-requires-clause-few
start_entry-requires-clause-few g c = let few = few_docs c.args.self.now.log.entries c.requires.few in let same = ap (λ (t : Tree). t.docs) c.args.self.now.same in omega arith

pub append-requires-clause-admitted : goal.append-requires-clause-admitted
append-requires-clause-admitted g c =
    let e : c.in_ok-entry.entry ≡ start_entry (rules_of c.args.session.now) (tree_of c.args.self.now.log.entries) c.args.url.now =
    c.in_ok-entry.ensures ∙ ap (λ (t : Tree). start_entry (rules_of c.args.session.now) t c.args.url.now) c.args.self.now.same in
    subst (λ (x : Entry). admits (tree_of c.args.self.now.log.entries) x ≡ true) (sym e) (start_admitted (rules_of c.args.session.now) c.args.self.now.log.entries c.args.url.now c.requires.few)

pub append-requires-clause-quiet : goal.append-requires-clause-quiet
append-requires-clause-quiet g c =
    let e : c.in_ok-entry.entry ≡ start_entry (rules_of c.args.session.now) (tree_of c.args.self.now.log.entries) c.args.url.now =
    c.in_ok-entry.ensures ∙ ap (λ (t : Tree). start_entry (rules_of c.args.session.now) t c.args.url.now) c.args.self.now.same in
    ap (λ (x : Entry). is_quiet x.what) e
