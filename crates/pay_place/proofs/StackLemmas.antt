-- What is open, with one more frame and with none.
use Rattle.std.proofs.Common.{◌≡◌, List, [], ◌∷◌, ◌++◌, map, refl}
use Rattle.std.proofs.lemmas.List.{map-append, reverse-append}
use Rattle.pay_meaning.specs.Language.{Script}
use Rattle.pay_place.specs.declared.place.Frame.{Frame as FrameTree}
use Rattle.pay_grammar.specs.Reading.{a_script}
use Rattle.pay_place.specs.ReadingViews.{frame, frames_over}

pub frames_over_nil : (script : Script) → frames_over script [] ≡ a_script script ∷ []
unfolding frames_over
frames_over_nil script = refl

pub frames_over_push : (script : Script) (inner : List FrameTree) (last : FrameTree)
    → frames_over script (inner ++ last ∷ []) ≡ frame last ∷ frames_over script inner
unfolding frames_over
frames_over_push script inner last = simp map-append (reverse-append (a_script script ∷ map frame inner) (frame last ∷ []))

pub ruleset stack_laws = (frames_over_nil, frames_over_push)
