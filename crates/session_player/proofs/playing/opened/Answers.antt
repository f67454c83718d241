use Rattle.std.proofs.Common.{◌∙◌, sym, ap, length}
use Rattle.tree_log.specs.declared.entry.Entry.{Entry}
use Rattle.std.specs.Prelude.{List}
use Rattle.coordinator_rules.specs.Decision.{rules_of}
use Rattle.single_agent.specs.Session.{started}
use Rattle.session_player.proofs.Begins.{starts_are}
use Rattle.session_player.proofs.playing.opened.Goals as goal

pub starts-init : goal.starts-init
starts-init g c =
    let e = c.in_ok-desk.ensures in
    let s = c.args.session.now in
    record {
      value = ap (λ (log : List Entry). started (rules_of s) log s.start) e.log ∙ sym (starts_are s);
      few = ap length e.log;
      count = e.count;
      told = e.told;
    }
