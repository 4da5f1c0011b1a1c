-- That ranges are sound.
use Rattle.std.proofs.Common.{◌≡◌, Bool, true, false, ◌||◌, List, Option, Some, None, Result, Ok, Err, IsTrue, refl}
use Rattle.std.proofs.Common.{inl, ℤ, pos, neg_ℤ, unsigned_abs, arith}
use Rattle.std.proofs.lemmas.Int.{ints}
use Rattle.pay_meaning.specs.declared.fault.FaultKind.{FaultKind}
use Rattle.pay_meaning.specs.declared.fault.FaultKind.TheVariants.{Overflow, ZeroDivisor, MissingFixing}
use Rattle.pay_meaning.specs.Language.{Operator, Number, literal, variable, spot, period, days, negative, absolute, binary, Event}
use Rattle.pay_meaning.specs.Meaning.{Variables, calculated, whole, one, both, value}
use Rattle.pay_meaning.specs.Meaning.{known as fixing_or_fault}
use Rattle.pay_domains.specs.declared.piece.Piece.{Piece}
use Rattle.pay_domains.specs.declared.flags.Flags.{Flags}
use Rattle.pay_domains.specs.declared.ranged.Ranged.{Ranged}
use Rattle.pay_domains.specs.Pieces.{Held, point, IsDomain}
use Rattle.pay_domains.specs.Operators.{with_flags, negated, magnitudes}
use Rattle.pay_domains.specs.DomainLaws.{flag_of, Covers}
use Rattle.pay_facts.specs.Facts.{Domains}
use Rattle.pay_facts.specs.Ranges.{Range, fixing_range, range_of_one, result_of, range_of_both, range}
use Rattle.pay_facts.specs.Holding.{Hold, IsFixing, IsKnown, InRange, at_fixing}
use Rattle.pay_facts.specs.FactLaws.{AreDomains, RangesAreSound}
use Rattle.pay_domains.proofs.Results.{point_domain, negated_domain, magnitudes_domain}
use Rattle.pay_facts.proofs.ResultLemmas.{proper, result-domain, operator-covers}
use Rattle.pay_domains.proofs.SetLaws.{sets-sound}

-- the raws of a number are a domain, where those of the variables are
pub range-domain : (number : Number) (domains : Domains) (known : Bool) (event : Event) → AreDomains domains
    → IsDomain (range number domains known event).domain
range-domain (literal raw) domains known event h = point_domain raw
range-domain (variable name) domains known event h = h name
range-domain spot domains known event h = record { rises = (omega (arith, ints), tt); few = omega arith }
range-domain period domains known event h = point_domain (whole event.period)
range-domain days domains known event h = point_domain (whole event.days)
range-domain (negative side) domains known event h = negated_domain (range side domains known event).domain (range-domain side domains known event h)
range-domain (absolute side) domains known event h = magnitudes_domain (range side domains known event).domain (range-domain side domains known event h)
range-domain (binary op left right) domains known event h =
    result-domain op (range left domains known event).domain (range right domains (range left domains known event).known event).domain

-- a raw is held by its point
pub point-held : (raw : ℤ) → Held raw (point raw)
point-held raw = inl (record { low = omega (arith, ints); high = omega (arith, ints) })

-- a flag of either part is a flag of both
left-holds : (a b : Bool) → IsTrue a → IsTrue (a || b)
left-holds true b h = refl
left-holds false b h = cc

right-holds : (a b : Bool) → IsTrue b → IsTrue (a || b)
right-holds true b h = refl
right-holds false b h = h

pub flag-left : (fault : FaultKind) (a b : Flags) → IsTrue (flag_of fault a) → IsTrue (flag_of fault (with_flags a b))
flag-left Overflow a b h = left-holds a.overflow b.overflow h
flag-left ZeroDivisor a b h = left-holds a.zero b.zero h
flag-left MissingFixing a b h = left-holds a.missing b.missing h

pub flag-right : (fault : FaultKind) (a b : Flags) → IsTrue (flag_of fault b) → IsTrue (flag_of fault (with_flags a b))
flag-right Overflow a b h = right-holds a.overflow b.overflow h
flag-right ZeroDivisor a b h = right-holds a.zero b.zero h
flag-right MissingFixing a b h = right-holds a.missing b.missing h

-- the fixing
fixing-in : (known : Bool) (fixing : Option ℤ) → IsKnown known fixing → IsFixing fixing → InRange fixing (fixing_range known) (fixing_or_fault fixing)
fixing-in true None h k = let none : false ≡ true = h refl in cc
fixing-in false None h k = refl
fixing-in known (Some raw) h k = (k, λ sure. refl)

-- the raws of a domain with the other sign, and without their sign
negated-held : (a : List Piece) → IsDomain a → (x : ℤ) → Held x a → Held (neg_ℤ x) (negated a)
negated-held a d x h = (sets-sound a a x (proper a d) (proper a d)).negative h

magnitudes-held : (a : List Piece) → IsDomain a → (x : ℤ) → Held x a → Held (pos (unsigned_abs x)) (magnitudes a)
magnitudes-held a d x h = (sets-sound a a x (proper a d) (proper a d)).absolute h

-- a number under a sign
one-in : (f : ℤ → ℤ) (sign : List Piece → List Piece) (side : Range) (fixing : Option ℤ) (u : Result ℤ FaultKind)
    → ((x : ℤ) → Held x side.domain → Held (f x) (sign side.domain)) → InRange fixing side u → InRange fixing (range_of_one sign side) (one f u)
one-in f sign side fixing (Err fault) keeps h = h
one-in f sign side fixing (Ok x) keeps h = (keeps x h.0, h.1)

-- two numbers under an operator: what it gives, and the faults of both sides
covered-in : (a b : Flags) (own : Ranged) (known : Bool) (fixing : Option ℤ) (r : Result ℤ FaultKind) → Covers own r → IsKnown known fixing
    → InRange fixing (record { domain = own.domain; flags = with_flags (with_flags a b) own.flags; known = known }) r
covered-in a b own known fixing (Err fault) h k = flag-right fault (with_flags a b) own.flags h
covered-in a b own known fixing (Ok x) h k = (h, k)

both-in : (op : Operator) (a b : Range) (fixing : Option ℤ) (u v : Result ℤ FaultKind) → IsDomain a.domain → IsDomain b.domain
    → InRange fixing a u → (IsKnown a.known fixing → InRange fixing b v) → InRange fixing (range_of_both op a b) (both (calculated op) u v)
both-in op a b fixing (Err fault) v da db h k =
    flag-left fault (with_flags a.flags b.flags) (result_of op a.domain b.domain).flags (flag-left fault a.flags b.flags h)
both-in op a b fixing (Ok x) (Err fault) da db h k =
    flag-left fault (with_flags a.flags b.flags) (result_of op a.domain b.domain).flags (flag-right fault a.flags b.flags (k h.1))
both-in op a b fixing (Ok x) (Ok y) da db h k =
    covered-in a.flags b.flags (result_of op a.domain b.domain) b.known fixing (calculated op x y)
    (operator-covers op a.domain b.domain x y (proper a.domain da) (proper b.domain db) h.0 (k h.1).0) (k h.1).1

-- facts that hold, with the fixing as it is after a part
pub hold-on : (domains : Domains) (known after : Bool) (variables : Variables) (fixing : Option ℤ) → Hold domains known variables fixing
    → IsKnown after fixing → Hold domains after variables fixing
hold-on domains known after variables fixing h k = record { values = h.values; spot = k; limits = h.limits }

pub ranges-sound : RangesAreSound
ranges-sound (literal raw) domains known event variables fixing d h = (point-held raw, h.spot)
ranges-sound (variable name) domains known event variables fixing d h = (h.values name, h.spot)
ranges-sound spot domains known event variables fixing d h = fixing-in known fixing h.spot h.limits
ranges-sound period domains known event variables fixing d h = (point-held (whole event.period), h.spot)
ranges-sound days domains known event variables fixing d h = (point-held (whole event.days), h.spot)
ranges-sound (negative side) domains known event variables fixing d h =
    let side-range = range side domains known event in
    one-in neg_ℤ negated side-range fixing (value side variables (at_fixing event fixing))
    (negated-held side-range.domain (range-domain side domains known event d))
    (ranges-sound side domains known event variables fixing d h)
ranges-sound (absolute side) domains known event variables fixing d h =
    let side-range = range side domains known event in
    one-in (λ raw. pos (unsigned_abs raw)) magnitudes side-range fixing (value side variables (at_fixing event fixing))
    (magnitudes-held side-range.domain (range-domain side domains known event d))
    (ranges-sound side domains known event variables fixing d h)
ranges-sound (binary op left right) domains known event variables fixing d h =
    both-in op (range left domains known event) (range right domains (range left domains known event).known event) fixing
    (value left variables (at_fixing event fixing)) (value right variables (at_fixing event fixing))
    (range-domain left domains known event d) (range-domain right domains (range left domains known event).known event d)
    (ranges-sound left domains known event variables fixing d h)
    (λ k. ranges-sound right domains (range left domains known event).known event variables fixing d
    (hold-on domains known (range left domains known event).known variables fixing h k))
