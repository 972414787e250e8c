-- `ruler::Layout::has_marks` what the search leaves: the first k records are those of the first k marks.
use Rattle.std.proofs.Common.{◌≡◌, ℕ, ◌+◌, ◌*◌, ◌/◌, ◌<◌, true, T, List, [], ℤ, get_or, take, drop, length, sym, ap, ◌∙◌, subst, arith, rules, to_z-of_z, w32, SFits}
use native.Mathlib.Decide.{dec_lt}
use Rattle.numeric.specs.Calls.{element}
use Rattle.decimal.specs.Read.{same_bytes}
use Rattle.decimal.proofs.Texts.{same-equal, same_yes, same_no}
use Rattle.ruler.specs.Bytes.{laid}
use Rattle.ruler.specs.Steps.{mark_of}
use Rattle.ruler.proofs.Records.{run, run_at, runs_equal, part_is}
use Rattle.ruler.proofs.Layout.has_marks.Goals as goal

-- what holds below k, and of k
grown : (P : ℕ → Type 0) (k : ℕ) → ((i : ℕ) → i < k → P i) → P k → (i : ℕ) → i < k + 1 → P i
grown P k f p i h = go (dec_lt i k)
  where
    go : Dec (i < k) → P i
    go (yes l) = f i l
    go (no g) = let e : k ≡ i = omega arith in subst P e p

pub returns-then-not-is_mark : goal.returns-then-not-is_mark
returns-then-not-is_mark c =
    let d = c.args.self.drawing.draft in
    let p = c.args.self.points in
    let l = c.args.l.now in
    let k = c.loop-k.k in
    let a = c.as_chunks in
    let f = element p.first p.step in
    let v : SFits w32 c.mark.result = search rules in
    let told = c.is_mark.ensures ∙ ap (λ (z : ℤ). same_bytes (get_or a.result.0.now k []) (laid (mark_of d z))) (to_z-of_z v ∙ c.mark.ensures) in
    let part : get_or a.result.0.now k [] ≡ take 20 (drop (20 * k) l) = ap (λ (x : List (List ℕ)). get_or x k []) a.ensures.front ∙ part_is _ k l (omega (arith, a.ensures.front_len, c.loop-k-test.true)) in
    let below : k < p.count = omega (arith, a.ensures.front_len, c.loop-k-test.true, c.requires) in
    let agree : l ≡ run d.a d.b d.limit f p.count → c.is_mark.result ≡ true = λ e. told ∙ same_yes _ _ (part ∙ ap (λ (t : List ℕ). take 20 (drop (20 * k) t)) e ∙ run_at d.a d.b d.limit f p.count k below) in
    sym (same_no l (run d.a d.b d.limit f p.count) (λ e. subst T (sym (agree e) ∙ c.if-not-is_mark.true) tt))

pub loop-k-preserved : goal.loop-k-preserved
loop-k-preserved c =
    let d = c.args.self.drawing.draft in
    let p = c.args.self.points in
    let k = c.loop-k.k in
    let records = c.as_chunks.result.0.now in
    let v : SFits w32 c.mark.result = search rules in
    let told = c.is_mark.ensures ∙ ap (λ (z : ℤ). same_bytes (get_or records k []) (laid (mark_of d z))) (to_z-of_z v ∙ c.mark.ensures) in
    grown (λ (i : ℕ). get_or records i [] ≡ laid (mark_of d (element p.first p.step i))) k c.loop-k.invariant (same-equal _ _ (sym told ∙ c.if-not-is_mark.false))

pub returns : goal.returns
returns c =
    let d = c.args.self.drawing.draft in
    let p = c.args.self.points in
    let l = c.args.l.now in
    let a = c.as_chunks in
    let part : (k : ℕ) → k < length l / 20 → get_or a.result.0.now k [] ≡ take 20 (drop (20 * k) l) = λ k h. ap (λ (x : List (List ℕ)). get_or x k []) a.ensures.front ∙ part_is _ k l h in
    sym (same_yes _ _ (runs_equal d.a d.b d.limit (element p.first p.step) p.count l c.requires
    (λ k h. sym (part k (omega (arith, c.requires))) ∙ c.loop-k.invariant k (omega (arith, c.requires, a.ensures.front_len, c.loop-k-test.false)))))
