-- What the words ask for, and what a command answers where that is nothing.
use Rattle.std.proofs.Common.{◌≡◌, ℕ, List, Some, None, refl, sym, ap, subst}
use Rattle.std.specs.Prelude.{Option}
use Rattle.trace_text.specs.declared.status.Status.{Status}
use Rattle.trace_text.specs.declared.status.Status.TheVariants as status
use Rattle.trace_text.specs.StatusText.{status_words}
use Rattle.origin_core.specs.Flags.{◌◊◌}
use Rattle.winproxy_cmd.specs.declared.forms.Form.{Form}
use Rattle.winproxy_cmd.specs.declared.forms.Form.TheVariants as form
use Rattle.winproxy_cmd.specs.Command.{IsPlayWord, form_named, form_of, CommandAnswers, usage_words}

-- the word alone asks for a play
pub play_word : (words : List (List ℕ)) → IsPlayWord words → form_of words ≡ Some form.Play
unfolding form_named
play_word words e = ap form_of e

pub unasked : (asked : Option Form) (input : Option (List ℕ)) (before now : ℕ) (st : Status) → asked ≡ None → st ≡ status.Usage
    → CommandAnswers asked input before now st (usage_words ◊ status_words status.Usage)
unasked asked input before now st e usage =
    subst (λ (a : Option Form). CommandAnswers a input before now st (usage_words ◊ status_words status.Usage)) (sym e)
    (subst (λ (s : Status). CommandAnswers None input before now s (usage_words ◊ status_words status.Usage)) (sym usage) refl)
