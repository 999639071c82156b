use Rattle.std.proofs.Common.{ℕ, ◌+◌, ◌∷◌, List, take, sym, ap, ◌∙◌}
use Rattle.std.proofs.lemmas.List.{take_rest}
use Rattle.ark_script.specs.Words.{parts_of}
use Rattle.ark_forms.proofs.Parts.{parts_whole, parts_first}
use Rattle.ark_forms.proofs.split.split_once.Goals as goal

pub returns-in_err-at : goal.returns-in_err-at
returns-in_err-at c = rw c.from_residual.ensures (parts_whole _ _ (sym c.place_of.ensures ∙ c.in_err-at.was))

pub returns : goal.returns
returns c =
    parts_first _ _ _ (sym c.place_of.ensures ∙ c.in_ok-at.was)
    ∙ ap (λ (t : List ℕ). take c.in_ok-at.at c.args.bytes.now ∷ parts_of c.args.separator t) (sym (take_rest c.args.bytes.now (c.in_ok-at.at + 1)))
