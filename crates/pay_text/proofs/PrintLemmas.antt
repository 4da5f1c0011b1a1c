-- The lines after `else`.
use Rattle.std.proofs.Common.{◌≡◌, ℕ, ◌≤◌, codes, List, [], ◌∷◌, ◌++◌, length, ap, ◌∙◌, append_assoc, arith}
use Rattle.pay_tree.specs.declared.tree.Stmt.{Stmt}
use Rattle.pay_text.specs.Text.{unless_empty, word_line, deeper, body_text}
use Rattle.pay_tree.specs.Views.{body}

-- the line `else` and the lines of statements are written where there are some
pub else_lines : (statements : List Stmt) (indent before middle inner after : List ℕ) → 1 ≤ length statements
    → middle ≡ before ++ word_line indent (codes "else") → inner ≡ deeper indent → after ≡ middle ++ body_text inner (body statements)
    → after ≡ before ++ unless_empty (body statements) (word_line indent (codes "else") ++ body_text (deeper indent) (body statements))
else_lines [] indent before middle inner after some first further second = absurd (omega arith)
else_lines (statement ∷ rest) indent before middle inner after some first further second =
    second ∙ ap (λ (text : List ℕ). text ++ body_text inner (body (statement ∷ rest))) first
    ∙ append_assoc before (word_line indent (codes "else")) (body_text inner (body (statement ∷ rest)))
    ∙ ap (λ (more : List ℕ). before ++ (word_line indent (codes "else") ++ body_text more (body (statement ∷ rest)))) further

-- three pieces that are written one after the other
pub three_pieces : (before a b c first second third : List ℕ) → first ≡ before ++ a → second ≡ first ++ b → third ≡ second ++ c
    → third ≡ before ++ (a ++ (b ++ c))
three_pieces before a b c first second third one two three =
    three ∙ ap (λ (text : List ℕ). text ++ c) (two ∙ ap (λ (text : List ℕ). text ++ b) one)
    ∙ append_assoc (before ++ a) b c ∙ append_assoc before a (b ++ c)

-- and four
pub four_pieces : (before a b c d first second third fourth : List ℕ) → first ≡ before ++ a → second ≡ first ++ b → third ≡ second ++ c
    → fourth ≡ third ++ d → fourth ≡ before ++ (a ++ (b ++ (c ++ d)))
four_pieces before a b c d first second third fourth one two three four =
    three_pieces first b c d second third fourth two three four ∙ ap (λ (text : List ℕ). text ++ (b ++ (c ++ d))) one
    ∙ append_assoc before a (b ++ (c ++ d))
