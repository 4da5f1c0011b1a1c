-- Inputs that are read one after the other, and the first of them that ends a request.
use Rattle.std.proofs.Common.{◌≡◌, ℕ, ◌+◌, ◌≤◌, IsTrue, inl, inr, List, [], ◌∷◌, ◌++◌, map, Option, Some, None, IfSome, refl, sym, ap, subst, ◌∙◌, arith}
use Rattle.std.proofs.Common.{append_assoc, if◌then◌else◌}
use Rattle.pay_edge.specs.Edge.{Files, Rose, OnlyRead, SameBut}
use Rattle.pay_inputs.specs.declared.input.InputStop.{InputStop}
use Rattle.pay_inputs.specs.declared.input.InputStop.TheVariants.{Refused, Unread, NoMemory}
use Rattle.pay_words.specs.Requests.{Asked}
use Rattle.pay_inputs.specs.Inputs.{Input}
use Rattle.pay_tool.specs.Answers.{Answer, answer_to, answer_by}
use Rattle.pay_tool.specs.Causes.{InputFile, inputs_of, inputs_up_to, inputs_fetched, IsNoneOf, IsNamed, RoseAt, Caused}
use Rattle.pay_tool.specs.Exits.{exit_at}
use Rattle.pay_tool.specs.Fetches.{fetches_of}
use Rattle.pay_inputs.specs.InputStops.{StopsAt}
use Rattle.pay_tool.specs.Reading.{Seen, seen_of, HaveRead, HasRead, IsCausedEarly}
use Rattle.pay_tool.proofs.Ended.{untouched_begun}

-- what holds of all files holds of those that are told
if_any : (told : Option Files) {P : Files → Type 0} → ((files : Files) → P files) → IfSome told P
if_any None all = tt
if_any (Some files) all = all files

-- each of these inputs is accepted
abbrev pub AreAccepted : List InputFile → Files → Type 0
AreAccepted [] files = Unit {0}
AreAccepted (input ∷ inputs) files = IsTrue (input.accepted files) × AreAccepted inputs files

-- where there are no inputs, each is accepted
pub none_accepted : (told : Option Files) → IfSome told (AreAccepted [])
none_accepted told = if_any told (λ files. tt)

-- a name is that of none of these inputs
abbrev NamesNone : List InputFile → List ℕ → Type 0
NamesNone inputs name = IsNoneOf (map (λ input. input.name) inputs) name

-- a name of none of some inputs is that of none of their front
none_front : (front rest : List InputFile) (name : List ℕ) → NamesNone (front ++ rest) name → NamesNone front name
none_front [] rest name h = tt
none_front (input ∷ front) rest name h = (h.0, none_front front rest name h.1)

-- and of none of those after it
none_rest : (front rest : List InputFile) (name : List ℕ) → NamesNone (front ++ rest) name → NamesNone rest name
none_rest [] rest name h = h
none_rest (input ∷ front) rest name h = none_rest front rest name h.1

-- inputs may take as many fetches as their parts
fetches-append : (front rest : List InputFile) → fetches_of (front ++ rest) ≡ fetches_of front + fetches_of rest
fetches-append [] rest = omega arith
fetches-append (input ∷ front) rest = let more = fetches-append front rest in omega arith

-- at first no input was read
pub none_read : (seen : Seen) → HaveRead [] seen seen
none_read seen = record { files = refl; later = λ name. omega arith; others = λ other h. refl; fetches = omega arith }

-- an input was read, under its name
pub one_read : {D : Type 0} (told : D → Option Files) (reads : D → List ℕ → ℕ) (writes fetches : D → ℕ) (input : InputFile) (name : List ℕ) (old new : D)
    → name ≡ input.name → OnlyRead told reads writes old new → SameBut name (reads old) (reads new) → fetches new ≤ fetches old + (input.limit + 1)
    → HaveRead (input ∷ []) (seen_of told reads fetches old) (seen_of told reads fetches new)
one_read told reads writes fetches input name old new named read same few = record {
  files = read.files;
  later = read.later;
  others = λ other h. same.others other (λ is. h.0 (is ∙ named));
  fetches = omega arith;
}

-- inputs were read, and then others
pub read_more : (front rest : List InputFile) (old middle new : Seen) → HaveRead front old middle → HaveRead rest middle new → HaveRead (front ++ rest) old new
read_more front rest old middle new first second = record {
  files = second.files ∙ first.files;
  later = λ name. let before = first.later name in let after = second.later name in omega arith;
  others = λ other h. second.others other (none_rest front rest other h) ∙ first.others other (none_front front rest other h);
  fetches = let sum = fetches-append front rest in omega (arith, first.fetches, second.fetches);
}

-- the inputs up to the first that isn't accepted begin with those that are, and the one after them
up_to_front : (front : List InputFile) (input : InputFile) (rest : List InputFile) (files : Files) → AreAccepted front files
    → (more : List InputFile) × (inputs_up_to (front ++ (input ∷ rest)) files ≡ (front ++ (input ∷ [])) ++ more)
up_to_front [] input rest files accepted = ((if input.accepted files then inputs_up_to rest files else []), refl)
up_to_front (first ∷ front) input rest files accepted =
    let found = up_to_front front input rest files accepted.1 in
    (found.0, rw accepted.0 (ap (λ (inputs : List InputFile). first ∷ inputs) found.1))

-- so do those that may be fetched
fetched_front : (asked : Asked) (front : List InputFile) (input : InputFile) (rest : List InputFile) (told : Option Files)
    → inputs_of asked ≡ front ++ (input ∷ rest) → IfSome told (AreAccepted front)
    → (more : List InputFile) × (inputs_fetched (Some asked) told ≡ (front ++ (input ∷ [])) ++ more)
fetched_front asked front input rest None are accepted = (rest, are ∙ sym (append_assoc front (input ∷ []) rest))
fetched_front asked front input rest (Some files) are accepted =
    let found = up_to_front front input rest files accepted in
    (found.0, ap (λ (inputs : List InputFile). inputs_up_to inputs files) are ∙ found.1)

-- a request read no more than the inputs up to the first that isn't accepted
pub request_read : (asked : Asked) (front : List InputFile) (input : InputFile) (rest : List InputFile) (old new : Seen)
    → inputs_of asked ≡ front ++ (input ∷ rest) → IfSome old.files (AreAccepted front) → HaveRead (front ++ (input ∷ [])) old new → HasRead asked old new
request_read asked front input rest old new are accepted read =
    let found = fetched_front asked front input rest old.files are accepted in
    let few = ap fetches_of found.1 ∙ fetches-append (front ++ (input ∷ [])) found.0 in
    record {
      others = record {
        others = λ other h. read.others other (none_front (front ++ (input ∷ [])) found.0 other
            (subst (λ (inputs : List InputFile). NamesNone inputs other) found.1 h));
      };
      fetches = omega (arith, read.fetches);
    }

-- an input of a list has its name
named_at : (front : List InputFile) (input : InputFile) (rest : List InputFile) → IsNamed (front ++ (input ∷ rest)) input.name
named_at [] input rest = inl refl
named_at (first ∷ front) input rest = inr (named_at front input rest)

-- the count of an input after accepted ones rose
rose_at : (front : List InputFile) (input : InputFile) (rest : List InputFile) (told : Option Files) (before now : List ℕ → ℕ)
    → IfSome told (AreAccepted front) → Rose (before input.name) (now input.name) → RoseAt (front ++ (input ∷ rest)) told before now input.name
rose_at [] input rest told before now accepted rose = inl (refl, rose)
rose_at (first ∷ front) input rest None before now accepted rose = inr (tt, rose_at front input rest None before now tt rose)
rose_at (first ∷ front) input rest (Some files) before now accepted rose = inr (accepted.0, rose_at front input rest (Some files) before now accepted.1 rose)

-- an input after accepted ones ends its request for its cause
caused_at : {A : Type 0} (asked : Asked) (front : List InputFile) (input : InputFile) (rest : List InputFile) (told : Option Files)
    (before middle now : List ℕ → ℕ) (value : Files → Input A) (after : Files → A → Answer) (text : Option (List ℕ)) (faults : ℕ) (stop : InputStop)
    → inputs_of asked ≡ front ++ (input ∷ rest) → IfSome told (AreAccepted front)
    → IfSome told (λ files. answer_to asked files ≡ answer_by input.name (value files) (after files))
    → before input.name ≤ middle input.name → StopsAt told value (middle input.name) (now input.name) stop
    → Caused (Some asked) (record { files = told; reads = before; reads' = now; text = text; text' = text; faults = faults; faults' = faults })
    (exit_at input.name stop)
caused_at asked front input rest None before middle now value after text faults (Refused refusal) are accepted answer later stops =
    (refl, subst (λ (inputs : List InputFile). IsNamed inputs input.name) (sym are) (named_at front input rest), tt)
caused_at asked front input rest (Some files) before middle now value after text faults (Refused refusal) are accepted answer later stops =
    (refl, subst (λ (inputs : List InputFile). IsNamed inputs input.name) (sym are) (named_at front input rest), rw (answer, stops) (refl, refl))
caused_at asked front input rest told before middle now value after text faults Unread are accepted answer later (inl rose) = (
  refl,
  inl (subst (λ (inputs : List InputFile). RoseAt inputs told before now input.name) (sym are)
      (rose_at front input rest told before now accepted (omega arith))),
)
caused_at asked front input rest None before middle now value after text faults Unread are accepted answer later (inr gone) = absurd gone
caused_at asked front input rest (Some files) before middle now value after text faults Unread are accepted answer later (inr gone) =
    (refl, inr (rw (answer, gone) refl))
caused_at asked front input rest None before middle now value after text faults NoMemory are accepted answer later stops = (refl, tt)
caused_at asked front input rest (Some files) before middle now value after text faults NoMemory are accepted answer later stops =
    (refl, untouched_begun (answer_to asked files) text text refl)

-- an input that stopped a request after accepted ones is the cause of its exit
pub stopped_at : {A : Type 0} (asked : Asked) (front : List InputFile) (input : InputFile) (rest : List InputFile) (old middle new : Seen)
    (value : Files → Input A) (after : Files → A → Answer) (stop : InputStop) → inputs_of asked ≡ front ++ (input ∷ rest)
    → IfSome old.files (AreAccepted front) → IfSome old.files (λ files. answer_to asked files ≡ answer_by input.name (value files) (after files))
    → HaveRead front old middle → StopsAt middle.files value (middle.reads input.name) (new.reads input.name) stop
    → IsCausedEarly asked old new (exit_at input.name stop)
stopped_at asked front input rest old middle new value after stop are accepted answer read stops = λ text faults.
    caused_at asked front input rest old.files old.reads middle.reads new.reads value after text faults stop are accepted answer (read.later input.name)
    (subst (λ (told : Option Files). StopsAt told value (middle.reads input.name) (new.reads input.name) stop) read.files stops)

-- the first input, where it stopped a request, is the cause of its exit
pub stopped_first : {A : Type 0} (asked : Asked) (input : InputFile) (rest : List InputFile) (old new : Seen) (value : Files → Input A)
    (after : Files → A → Answer) (stop : InputStop) → inputs_of asked ≡ input ∷ rest
    → ((files : Files) → answer_to asked files ≡ answer_by input.name (value files) (after files))
    → StopsAt old.files value (old.reads input.name) (new.reads input.name) stop → IsCausedEarly asked old new (exit_at input.name stop)
stopped_first asked input rest old new value after stop are answer stops =
    stopped_at asked [] input rest old old new value after stop are (none_accepted old.files) (if_any old.files answer) (none_read old) stops
