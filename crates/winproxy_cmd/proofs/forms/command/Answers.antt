use Rattle.std.proofs.Common.{◌≡◌, None, refl, inl, inr, ◌++◌, map, string_bytes}
use Rattle.trace_text.specs.declared.status.Status.TheVariants.{Usage, Write}
use Rattle.trace_text.specs.StatusText.{status_words}
use Rattle.winproxy_cmd.specs.Command.{form_of, usage_words}
use Rattle.winproxy_cmd.proofs.Asked.{play_word, unasked}
use Rattle.winproxy_cmd.proofs.forms.command.Goals as goal

pub returns-in-Some-Check-clause-headline : goal.returns-in-Some-Check-clause-headline
returns-in-Some-Check-clause-headline g c = λ play _.
    let asked = play_word (map string_bytes c.args.words.now) play in
    let named = c.form_of.ensures in
    let is = c.in-Some-Check.is in
    let field = c.in-Some-Check.field-0-is in
    absurd cc

pub returns-in-None-clause-text : goal.returns-in-None-clause-text
unfolding status_words
returns-in-None-clause-text g c = λ some _.
    let named = c.form_of.ensures in
    let is = c.in-None.is in
    let asked : form_of (map string_bytes c.args.words.now) ≡ None = cc in
    elim c.print.ensures.either [
      | inl write ↦ absurd (some write)
      | inr usage ↦ (usage_words ++ status_words Usage, unasked _ _ _ _ c.print.result asked usage, c.print.ensures.text some)
    ]

pub returns-in-None-clause-front : goal.returns-in-None-clause-front
unfolding status_words
returns-in-None-clause-front g c = λ write.
    let named = c.form_of.ensures in
    let is = c.in-None.is in
    let asked : form_of (map string_bytes c.args.words.now) ≡ None = cc in
    let other : Usage ≡ Write → ⊥ = λ e. cc in
    (Usage, usage_words ++ status_words Usage, unasked _ _ _ _ Usage asked refl, c.print.ensures.front write other)
