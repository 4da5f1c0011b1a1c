-- What a script is refused for, by what rolling and indexing answer.
use Rattle.std.proofs.Common.{◌≡◌, List, [], ◌∷◌, ◌++◌, map, Option, Some, None, refl, ap, ◌∙◌}
use Rattle.std.specs.Option.{option_and_then}
use Rattle.pay_meaning.specs.Language.{Script}
use Rattle.pay_roll.specs.Rolling.{first_of, roll_refusals, roll_refusal}
use Rattle.pay_roll.specs.Rolling as roll
use Rattle.pay_roll.specs.declared.refusal.RollRefusal.{RollRefusal}
use Rattle.pay_roll.specs.declared.refusal.RollRefusal.TheVariants as rolling
use Rattle.pay_passes.specs.Indexing.{index_refusals, index_refusal}
use Rattle.pay_passes.specs.Indexing as index
use Rattle.pay_passes.specs.declared.trade.IndexRefusal.{IndexRefusal}
use Rattle.pay_passes.specs.declared.trade.IndexRefusal.TheVariants as indexing
use Rattle.pay_compile.specs.declared.refusal.CompileRefusal.{CompileRefusal}
use Rattle.pay_compile.specs.Preparing.{refusal_of_roll, refusal_of_index, compile_refusal, IsRefusalOf}
use Rattle.pay_compile.specs.Refusals.{refused_roll, refused_index}

-- the first of refusals that are said in other words, and of those after them
first_said : {A B : Type 0} (say : A → Option B) (found : List (Option A)) (rest : List (Option B)) (refusal : A) (reason : B)
    → first_of found ≡ Some refusal → say refusal ≡ Some reason → first_of (map (option_and_then say) found ++ rest) ≡ Some reason
first_said say [] rest refusal reason e is = cc
first_said say (None ∷ found) rest refusal reason e is = first_said say found rest refusal reason e is
first_said say (Some first ∷ found) rest refusal reason e is =
    let same : first ≡ refusal = cc in
    let f : say first ≡ Some reason = ap say same ∙ is in
    rw f refl

none_said : {A B : Type 0} (say : A → Option B) (found : List (Option A)) (rest : List (Option B)) → first_of found ≡ None
    → first_of (map (option_and_then say) found ++ rest) ≡ first_of rest
none_said say [] rest e = refl
none_said say (None ∷ found) rest e = none_said say found rest e
none_said say (Some first ∷ found) rest e = cc

-- the same of refusals with none after them
first_alone : {A B : Type 0} (say : A → Option B) (found : List (Option A)) (refusal : A) (reason : B)
    → first_of found ≡ Some refusal → say refusal ≡ Some reason → first_of (map (option_and_then say) found) ≡ Some reason
first_alone say [] refusal reason e is = cc
first_alone say (None ∷ found) refusal reason e is = first_alone say found refusal reason e is
first_alone say (Some first ∷ found) refusal reason e is =
    let same : first ≡ refusal = cc in
    let f : say first ≡ Some reason = ap say same ∙ is in
    rw f refl

none_alone : {A B : Type 0} (say : A → Option B) (found : List (Option A)) → first_of found ≡ None
    → first_of (map (option_and_then say) found) ≡ None
none_alone say [] e = refl
none_alone say (None ∷ found) e = none_alone say found e
none_alone say (Some first ∷ found) e = cc

-- a script that is refused events
not_rolled : (script : Script) (refusal : RollRefusal) (reason : CompileRefusal) → roll_refusal script ≡ Some refusal
    → refusal_of_roll refusal ≡ Some reason → compile_refusal script ≡ Some reason
unfolding roll_refusal compile_refusal
not_rolled script refusal reason e is =
    first_said refusal_of_roll (roll_refusals script) (map (option_and_then refusal_of_index) (index_refusals script)) refusal reason e is

-- a script that has events, and is refused for its names
not_indexed : (script : Script) (refusal : IndexRefusal) (reason : CompileRefusal) → roll_refusal script ≡ None → index_refusal script ≡ Some refusal
    → refusal_of_index refusal ≡ Some reason → compile_refusal script ≡ Some reason
unfolding roll_refusal index_refusal compile_refusal
not_indexed script refusal reason rolled e is =
    none_said refusal_of_roll (roll_refusals script) (map (option_and_then refusal_of_index) (index_refusals script)) rolled
    ∙ first_alone refusal_of_index (index_refusals script) refusal reason e is

-- the refusal of rolling is the script's
pub rolling_refused : (script : Script) (refusal : RollRefusal) → roll.IsRefusalOf script refusal → IsRefusalOf script (refused_roll refusal)
rolling_refused script (rolling.BadSchedule item) e = not_rolled script _ _ e refl
rolling_refused script (rolling.SameDate date) e = not_rolled script _ _ e refl
rolling_refused script (rolling.TooMany what limit) e = not_rolled script _ _ e refl
rolling_refused script rolling.NoMemory e = tt

-- the refusal of indexing is the script's, where rolling has none
pub indexing_refused : (script : Script) (refusal : IndexRefusal) → roll_refusal script ≡ None → index.IsRefusalOf script refusal
    → IsRefusalOf script (refused_index refusal)
indexing_refused script (indexing.TooMany what limit) rolled e = not_indexed script _ _ rolled e refl
indexing_refused script indexing.NoMemory rolled e = tt

-- a script that neither has a refusal for has none
pub none_refused : (script : Script) → roll_refusal script ≡ None → index_refusal script ≡ None → compile_refusal script ≡ None
unfolding roll_refusal index_refusal compile_refusal
none_refused script rolled indexed =
    none_said refusal_of_roll (roll_refusals script) (map (option_and_then refusal_of_index) (index_refusals script)) rolled
    ∙ none_alone refusal_of_index (index_refusals script) indexed
