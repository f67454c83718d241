use Rattle.std.proofs.Common.{◌≡◌, ◌++◌, ◌∙◌, ◌+◌, ap, sym, length, string_bytes, rules, append_assoc, arith}
use Rattle.std.specs.List.{flat_map}
use Rattle.trace_text.specs.LogText.{log_words}
use Rattle.trace_text.specs.StatusText.{status_words}
use Rattle.single_agent.specs.Turns.{log_of, record_of}
use Rattle.single_agent.proofs.Played.{legal_log, legal_record}
use Rattle.winproxy_cmd.specs.Command.{run_words, records_words, status_of}
use Rattle.winproxy_cmd.proofs.Records.{worker_words, are_records}
use Rattle.session_player.proofs.Leaves.{map_length}
use Rattle.session_player.specs.Underway.{seat_of}
use Rattle.winproxy_cmd.proofs.output.run_text.Goals as goal

pub returns : goal.returns
unfolding run_words
returns c =
    let run = c.in_ok-run.run' in
    let p = c.in_ok-run.ensures in
    let s = c.args.session.now in
    let st = c.status_of-status.result in
    let printed : string_bytes c.push_str-2.new.self ≡ log_words run.desk.log.entries ++ (flat_map worker_words run.workers.items ++ status_words st) = search (rules, append_assoc) in
    let many : length run.workers.items ≡ s.renderers = sym (map_length (seat_of _) run.workers.items) ∙ p.count in
    let records : flat_map worker_words run.workers.items ≡ records_words p.turns 0 s.renderers =
    are_records _ run.workers.items p.turns 0 (λ i x at. let z : i ≡ 0 + i = omega arith in (p.numbered i x at ∙ z, p.records_are i x at ∙ ap (λ k. record_of k p.turns) z)) ∙ ap (records_words p.turns 0) many in
    record {
      run = record {
        turns = p.turns;
        played = p.played;
        legal_log = legal_log s p.turns p.played;
        legal_records = λ r. legal_record s r p.turns p.played;
        ends = record { how = run.ending; is = p.ends; said = c.status_of-status.ensures ∙ ap (status_of run.ending) (c.len.ensures ∙ ap length p.log_is) };
        words = printed
            ∙ ap (λ l. log_words l ++ (flat_map worker_words run.workers.items ++ status_words st)) p.log_is
            ∙ ap (λ w. log_words (log_of s p.turns) ++ (w ++ status_words st)) records;
      };
    }
