-- What some writes, or some reads, one after the other did to a stream that tells its bytes.
use Rattle.std.proofs.Common.{◌≡◌, ℕ, ◌+◌, ◌-◌, ◌≤◌, List, ◌++◌, length, take, drop, ap, sym, subst, ◌∙◌, le_refl, length-take-le, drop_at}
use Rattle.std.proofs.Math.Seq.{take-add}
use Rattle.std.proofs.lemmas.List.{take-take, take-append-le}
use Rattle.std.proofs.lemmas.Slice.{take-put_mid_below}
use Rattle.std.proofs.KnownBytes.{Appends-trans, Consumes-trans}
use Rattle.std.specs.declared.option.Option.{Option}
use Rattle.std.specs.Io.KnownBytes.{Appends, Consumes}
use borrow.Rule.Slice.PartMut.{put_mid, post_of}

-- It took some first bytes, and then some of the rest.
pub took_more : (old mid new : Option (List ℕ)) (bytes : List ℕ) (done n : ℕ) → n ≤ length bytes - done → Appends old mid (take done bytes)
    → Appends mid new (take n (take (length bytes - done) (drop done bytes))) → Appends old new (take (done + n) bytes)
took_more old mid new bytes done n fits first second =
    let joined = ap (λ l. take done bytes ++ l) (take-take n (length bytes - done) (drop done bytes) fits) ∙ sym (take-add done n bytes) in
    subst (Appends old new) joined (Appends-trans old mid new _ _ first second)

joined_buffer : (buffer part : List ℕ) (done room n : ℕ) → done ≤ length buffer → n ≤ length part
    → take done buffer ++ take n part ≡ take (done + n) (put_mid done room buffer part)
joined_buffer buffer part done room n within fits =
    let all = put_mid done room buffer part in
    let after = post_of done room buffer in
    let front : take done all ≡ take done buffer = take-put_mid_below _ _ _ _ _ (le_refl done) within in
    let rest : take n (drop done all) ≡ take n part =
    ap (take n) (drop_at (take done buffer) (part ++ after) done (length-take-le done buffer within)) ∙ take-append-le n part after fits in
    sym (take-add done n all ∙ ap (λ l. l ++ take n (drop done all)) front ∙ ap (λ l. take done buffer ++ l) rest)

-- It gave the front of a buffer, and then some bytes after it.
pub gave_more : (old mid new : Option (List ℕ)) (buffer part : List ℕ) (done room n : ℕ) → done ≤ length buffer → n ≤ length part
    → Consumes old mid (take done buffer)
    → Consumes mid new (take n part) → Consumes old new (take (done + n) (put_mid done room buffer part))
gave_more old mid new buffer part done room n within fits first second =
    subst (Consumes old new) (joined_buffer buffer part done room n within fits) (Consumes-trans old mid new _ _ first second)
