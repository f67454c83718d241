use Rattle.std.proofs.Common.{◌≡◌, ◌∙◌, ◌∷◌, ◌++◌, ℕ, ◌<◌, ap, sym, subst, arith, List, true, false}
use Rattle.tree_log.specs.declared.entry.Entry.{Entry}
use Rattle.tree_log.specs.Tree.{Tree, tree_of, is, is_active}
use Rattle.tree_log.specs.Admits.{admits}
use Rattle.coordinator_rules.specs.Decision.{Decision, rules_of, asker_of, by, end_of, home_if_active}
use Rattle.session_player.specs.Serves.{Decides, Tells, ledger}
use Rattle.session_player.proofs.Asking.{asked_ended, asked_decided, decided_admitted, few_docs}
use Rattle.session_player.proofs.Quiet.{decided_quiet}
use Rattle.session_player.proofs.desk.Desk.ask.Goals as goal

pub returns-then-not-is_active-clause-serves : goal.returns-then-not-is_active-clause-serves
returns-then-not-is_active-clause-serves g c =
    let log : List Entry = c.args.self.now.log.entries in
    let asker : c.asker_of-asker.result ≡ asker_of c.args.request = c.asker_of-asker.ensures in
    let ended : is_active (tree_of log) (asker_of c.args.request) ≡ false =
    ap (is_active (tree_of log)) (sym asker) ∙ ap (λ (t : Tree). is_active t c.asker_of-asker.result) (sym c.args.self.now.same) ∙ sym c.is_active.ensures ∙ c.if-not-is_active.true in
    let d = asked_ended (rules_of c.args.session.now) log c.args.renderer c.args.request ended in
    record {
      yours = ap (λ a. is (home_if_active (tree_of log) a) c.args.renderer) (sym asker) ∙ sym c.is_yours.ensures.value ∙ c.if-not-is_yours.false;
      room = λ h. (let clash : true ≡ false = sym h ∙ ended in absurd cc);
      log = c.in_ok-told.ensures.log ∙ sym (ap (λ (x : Decision). x.entries ++ log) d);
      replies = (end_of log (asker_of c.args.request), ap (λ (x : Decision). x.outcome) d);
      tells = c.in_ok-told.ensures.tells;
    }

pub decided-requires-clause-few : goal.decided-requires-clause-few
decided-requires-clause-few g c = let few = few_docs c.args.self.now.log.entries (omega (arith, c.if-len.false, c.len.ensures)) in let same = ap (λ (t : Tree). t.docs) c.args.self.now.same in omega arith

pub append-requires-clause-admitted : goal.append-requires-clause-admitted
append-requires-clause-admitted g c =
    let log : List Entry = c.args.self.now.log.entries in
    let asker : c.asker_of-asker.result ≡ asker_of c.args.request = c.asker_of-asker.ensures in
    let active : is_active (tree_of log) (asker_of c.args.request) ≡ true =
    ap (is_active (tree_of log)) (sym asker) ∙ ap (λ (t : Tree). is_active t c.asker_of-asker.result) (sym c.args.self.now.same) ∙ sym c.is_active.ensures ∙ c.if-not-is_active.false in
    let lt : c.asker_of-asker.result < (g.V.View.tree c.args.self.now.view).docs = c.is_yours.ensures.there c.if-not-is_yours.false in
    let there : asker_of c.args.request < (tree_of log).docs = subst (λ n. n < (tree_of log).docs) asker (subst (λ (t : Tree). c.asker_of-asker.result < t.docs) c.args.self.now.same lt) in
    let decides : Decides (rules_of c.args.session.now) (tree_of log) c.args.request c.in_ok-what.what c.in_ok-what.reply =
    subst (λ (t : Tree). Decides (rules_of c.args.session.now) t c.args.request c.in_ok-what.what c.in_ok-what.reply) c.args.self.now.same c.in_ok-what.ensures in
    subst (λ a. admits (tree_of log) (by c.args.renderer a c.in_ok-what.what) ≡ true) (sym asker)
    (decided_admitted (rules_of c.args.session.now) log c.args.renderer c.args.request c.in_ok-what.what c.in_ok-what.reply (omega (arith, c.if-len.false, c.len.ensures)) there active decides)

pub append-requires-clause-quiet : goal.append-requires-clause-quiet
append-requires-clause-quiet g c =
    decided_quiet (rules_of c.args.session.now) (g.V.View.tree c.args.self.now.view) c.args.request c.in_ok-what.what c.in_ok-what.reply c.in_ok-what.ensures

pub returns-clause-serves : goal.returns-clause-serves
returns-clause-serves g c =
    let log : List Entry = c.args.self.now.log.entries in
    let asker : c.asker_of-asker.result ≡ asker_of c.args.request = c.asker_of-asker.ensures in
    let active : is_active (tree_of log) (asker_of c.args.request) ≡ true =
    ap (is_active (tree_of log)) (sym asker) ∙ ap (λ (t : Tree). is_active t c.asker_of-asker.result) (sym c.args.self.now.same) ∙ sym c.is_active.ensures ∙ c.if-not-is_active.false in
    let decides : Decides (rules_of c.args.session.now) (tree_of log) c.args.request c.in_ok-what.what c.in_ok-what.reply =
    subst (λ (t : Tree). Decides (rules_of c.args.session.now) t c.args.request c.in_ok-what.what c.in_ok-what.reply) c.args.self.now.same c.in_ok-what.ensures in
    let d = asked_decided (rules_of c.args.session.now) log c.args.renderer c.args.request c.in_ok-what.what c.in_ok-what.reply active decides in
    record {
      yours = ap (λ a. is (home_if_active (tree_of log) a) c.args.renderer) (sym asker) ∙ sym c.is_yours.ensures.value ∙ c.if-not-is_yours.false;
      room = λ h. omega (arith, c.if-len.false, c.len.ensures);
      log = c.in_ok-told-2.ensures.log ∙ c.in_ok-append.ensures.ok ∙ ap (λ a. by c.args.renderer a c.in_ok-what.what ∷ log) asker ∙ sym (ap (λ (es : List Entry). es ++ log) d.entries);
      replies = d.replies;
      tells = subst (λ (told : List ℕ). Tells c.args.renderer told (ledger c.tell-2.new.self.log.entries c.tell-2.new.self.told.items) c.in_ok-told-2.told) c.append.ensures.told c.in_ok-told-2.ensures.tells;
    }
