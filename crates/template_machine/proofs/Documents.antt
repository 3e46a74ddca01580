-- The documents that are open, by sources.
use Rattle.std.proofs.Common.{◌≡◌, ℕ, zero, suc, ◌≤◌, List, [], ◌∷◌, ◌++◌, length, reverse, Some, refl, ap, sym, subst, ◌∙◌, arith, None, Option}
use Rattle.std.specs.Prelude.{All, filter}
use Rattle.std.proofs.lemmas.List.{reverse-append}
use Rattle.std.proofs.lemmas.List.Elements.{All-cons, All-head, All-tail}
use Rattle.node_stack.specs.Path.{Document, Node, Path, PathNode}
use Rattle.node_stack.specs.Stack.{path}
use Rattle.template_machine.specs.Documents.{Open, documents, open_before, open_in, is_main}
use Rattle.template_machine.specs.Lists.{rest_of}
use Rattle.template_machine.specs.Moments.{IsBuffer, IsDocument}
use Rattle.template_machine.specs.Ways.{IsWay, Way, first_in, has_list, here, left, lists_on}
use Rattle.template_machine.specs.Work.{Means, means_of}
use Rattle.template_machine.specs.Working.{EntersSource}
use Rattle.template_machine.specs.declared.run.Run.{Run}
use Rattle.template_machine.specs.declared.source.Origin.{Origin}
use Rattle.template_machine.specs.declared.source.Origin.TheVariants as origin
use Rattle.template_machine.specs.declared.source.Source.{Source}
use Rattle.template_machine.specs.Sources.{resumed_by}

-- Limits.

abbrev pub limit_in : Path → ℕ
limit_in p = p.limit

pub resumed_limit : (o : Option PathNode) (p : Path) → limit_in (resumed_by o p) ≡ limit_in p
resumed_limit None p = refl
resumed_limit (Some x) p = refl

-- One source.

pub opens : (o : Origin) (limit n : ℕ) (others : List Open) → IsDocument o → 1 ≤ n → open_before o limit n others ≡ record { main = is_main o; limit = limit; lists = n } ∷ others
opens (origin.Buffer id at) limit n others is some = absurd is
opens origin.Main limit zero others is some = absurd (omega (arith, some))
opens origin.Main limit (suc n) others is some = refl
opens (origin.Document at) limit zero others is some = absurd (omega (arith, some))
opens (origin.Document at) limit (suc n) others is some = refl

pub closes : (o : Origin) (limit : ℕ) (others : List Open) → open_before o limit 0 others ≡ others
closes (origin.Buffer id at) limit others = refl
closes origin.Main limit others = refl
closes (origin.Document at) limit others = refl

hides : (o : Origin) (id limit n : ℕ) (others : List Open) → IsBuffer id o → open_before o limit n others ≡ others
hides (origin.Buffer own at) id limit n others is = refl
hides origin.Main id limit n others is = absurd is
hides (origin.Document at) id limit n others is = absurd is

-- what holds by limits alone
pub limits_hold : (P : Open → Type 0) (o : Origin) (limit n m : ℕ) (others : List Open) → ((k : ℕ) → P (record { main = is_main o; limit = limit; lists = n }) → P (record { main = is_main o; limit = limit; lists = k }))
    → IsDocument o → 1 ≤ n → All P (open_before o limit n others) → All P (open_before o limit m others)
limits_hold P o limit n m others any is some all =
    let front : Open = record { main = is_main o; limit = limit; lists = n } in
    let l : List Open = front ∷ others in
    let both : All P l = subst (All P) (opens o limit n others is some) all in
    by m (All-head P front others both) (All-tail P front others both)
  where
    by : (m : ℕ) → P (record { main = is_main o; limit = limit; lists = n }) → All P others → All P (open_before o limit m others)
    by zero front rest = subst (All P) (sym (closes o limit others)) rest
    by (suc m) front rest =
        subst (All P) (sym (opens o limit (suc m) others is (omega arith))) (All-cons P (record { main = is_main o; limit = limit; lists = suc m }) others (any (suc m) front) rest)

-- A run.

-- the innermost source is another with as many lists
pub sources_same : (r n : Run) → n.source.origin ≡ r.source.origin → (path n.source.stack).limit ≡ (path r.source.stack).limit → n.source.begun ≡ r.source.begun
    → n.outer.items ≡ r.outer.items → documents n ≡ documents r
sources_same r n from limit begun outer =
    ap (λ o. open_before o (path n.source.stack).limit n.source.begun (open_in (reverse n.outer.items))) from
    ∙ ap (λ l. open_before r.source.origin l n.source.begun (open_in (reverse n.outer.items))) limit
    ∙ ap (λ b. open_before r.source.origin (path r.source.stack).limit b (open_in (reverse n.outer.items))) begun
    ∙ ap (λ l. open_before r.source.origin (path r.source.stack).limit r.source.begun (open_in (reverse l))) outer

pub means_same : (r n : Run) → n.fuel ≡ r.fuel → documents n ≡ documents r → means_of n ≡ means_of r
means_same r n fuel still =
    let by_fuel : ℕ → Means = λ k. record { fuel = k; documents = documents n } in
    let by_documents : List Open → Means = λ l. record { fuel = r.fuel; documents = l } in
    ap by_fuel fuel ∙ ap by_documents still

pub means_kept : (r n : Run) → n.fuel ≡ r.fuel → n.source.origin ≡ r.source.origin → (path n.source.stack).limit ≡ (path r.source.stack).limit
    → n.source.begun ≡ r.source.begun → n.outer.items ≡ r.outer.items → means_of n ≡ means_of r
means_kept r n fuel from limit begun outer = means_same r n fuel (sources_same r n from limit begun outer)

pub same_documents : (r n : Run) → means_of n ≡ means_of r → documents n ≡ documents r
same_documents r n e = ap (λ (m : Means). m.documents) e

-- a buffer is counted another way
pub buffer_counted : (r : Run) (s : Source) (id : ℕ) → IsBuffer id r.source.origin → s.origin ≡ r.source.origin → documents (record r { source = s }) ≡ documents r
buffer_counted r s id is same =
    ap (λ o. open_before o (path s.stack).limit s.begun (open_in (reverse r.outer.items))) same
    ∙ hides r.source.origin id (path s.stack).limit s.begun (open_in (reverse r.outer.items)) is
    ∙ sym (hides r.source.origin id (path r.source.stack).limit r.source.begun (open_in (reverse r.outer.items)) is)

-- another source begins
source_before : (depth : ℕ) (o : Origin) (r t : Run) → EntersSource depth o r t → documents t ≡ open_before o depth 1 (documents r)
source_before depth o r t e =
    ap (λ x. open_before x (path t.source.stack).limit t.source.begun (open_in (reverse t.outer.items))) e.source.origin_is
    ∙ ap (λ (q : Path). open_before o q.limit t.source.begun (open_in (reverse t.outer.items))) e.source.path_is
    ∙ ap (λ b. open_before o depth b (open_in (reverse t.outer.items))) e.begun
    ∙ ap (λ l. open_before o depth 1 (open_in (reverse l))) e.outer
    ∙ ap (λ l. open_before o depth 1 (open_in l)) (reverse-append r.outer.items (r.source ∷ []))

pub buffer_before : (depth id : ℕ) (o : Origin) (r t : Run) → IsBuffer id o → EntersSource depth o r t → documents t ≡ documents r
buffer_before depth id o r t is e = source_before depth o r t e ∙ hides o id depth 1 (documents r) is

pub document_before : (depth : ℕ) (o : Origin) (r t : Run) → IsDocument o → EntersSource depth o r t → documents t ≡ record { main = is_main o; limit = depth; lists = 1 } ∷ documents r
document_before depth o r t is e = source_before depth o r t e ∙ opens o depth 1 (documents r) is (omega arith)

-- the innermost source, which has ended, is left
pub source_behind : (r n : Run) (x : Source) (init : List Source) → r.outer.items ≡ init ++ x ∷ [] → n.source ≡ x → n.outer.items ≡ init → r.source.begun ≡ 0
    → documents n ≡ documents r
source_behind r n x init items source outer none =
    ap (λ (s : Source). open_before s.origin (path s.stack).limit s.begun (open_in (reverse n.outer.items))) source
    ∙ ap (λ l. open_before x.origin (path x.stack).limit x.begun (open_in (reverse l))) outer
    ∙ sym (ap open_in (reverse-append init (x ∷ [])))
    ∙ sym (ap (λ l. open_in (reverse l)) items)
    ∙ sym (closes r.source.origin (path r.source.stack).limit (open_in (reverse r.outer.items)))
    ∙ sym (ap (λ b. open_before r.source.origin (path r.source.stack).limit b (open_in (reverse r.outer.items))) none)

-- Lists.

-- nothing is around a document node
pub bare : (nodes : List Node) → IsWay nodes → first_in nodes ≡ Some Document → rest_of nodes ≡ []
bare [] way e = absurd way
bare (x ∷ []) way e = refl
bare (x ∷ y ∷ ys) way e = let same : x ≡ Document = cc in absurd (way.0 same)

-- whose own list is over
pub none_left : (w : Way) → IsWay w.nodes → here w ≡ Some Document → lists_on (left w) ≡ 0
none_left w way e = ap (λ l. length (filter has_list l)) (bare w.nodes way e)
