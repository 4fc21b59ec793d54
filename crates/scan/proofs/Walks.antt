-- A walk, from its start, turn after turn, to its end.
use Rattle.std.specs.Borrow.{Bor}
use Rattle.std.proofs.Common.{◌≡◌, ℕ, ◌+◌, ◌<◌, ◌≤◌, true, List, [], ◌++◌, length, Ok, Err, Option, sym, refl, ap, ◌∙◌, subst, add-zero, add_assoc, arith, length-append}
use Rattle.std.proofs.lemmas.List.{append-nil}
use Rattle.layouts.specs.Types.{Types}
use Rattle.cells.specs.Words.{fits}
use Rattle.scan.specs.Visits.{Visit}
use Rattle.scan.specs.Answers.{Traced}
use Rattle.scan.specs.Pending.{frames, Resume, Good, Entered, Leads, Same, UnderWay, Turned, Ran}
use Rattle.scan.specs.Endings.{Ending, Done}
use Rattle.scan.specs.declared.scanned.Stop.{Stop}
use Rattle.scan.specs.declared.walk.Walk.{Walk}
use Rattle.scan.proofs.Steps.{leads_on}
use Rattle.scan.proofs.Inside.{Inside, inside_fits}
use Rattle.scan.proofs.Roots.{begun, out_of_frames}
use Rattle.scan.proofs.Laws.{traced}

module _ {S I : Type 0} (means : S → Types) (step : I → Visit → Option I) (a : Walk S) (i : I) where
  -- the turns so far lead from a and i to b and j
  pub record Gone (b : Walk S) (j : I) : Type 0 where
    pub same : Same a b
    pub under_way : UnderWay means b
    pub visits : List Visit
    pub counted : b.visits ≡ a.visits + length visits
    pub leads : Leads (means a.source.now) a.words.now step visits (frames b.pending.now b.depth) b.marks.now j (frames a.pending.now a.depth) a.marks.now i

  pub at_first : UnderWay means a → Gone a i
  at_first under = record {
    same = record { words = refl; source = refl; marks = refl };
    under_way = under;
    visits = [];
    counted = sym (add-zero a.visits);
    leads = λ us m s e r. r;
  }

  pub same_on : (b c : Walk S) → Same a b → Same b c → Same a c
  same_on b c one two = record {
    words = two.words ∙ one.words;
    source = two.source ∙ one.source;
    marks = two.marks ∙ one.marks;
  }

  -- what holds of the words and the templates of one walk holds of those of the other
  back : (P : Types → List ℕ → Type 0) (b c : Walk S) → Same b c → P (means c.source.now) c.words.now → P (means b.source.now) b.words.now
  back P b c same p =
      subst (λ (w : Bor (List ℕ)). P (means b.source.now) w.now) same.words (subst (λ (s : Bor S). P (means s.now) c.words.now) same.source p)

  forth : (P : Types → List ℕ → Type 0) (b c : Walk S) → Same b c → P (means b.source.now) b.words.now → P (means c.source.now) c.words.now
  forth P b c same p =
      subst (λ (w : Bor (List ℕ)). P (means c.source.now) w.now) (sym same.words) (subst (λ (s : Bor S). P (means s.now) b.words.now) (sym same.source) p)

  pub one_more : (b c : Walk S) (j k : I) → Gone b j → Same b c → (x : Unit {0}) → Turned means step b j c k (Ok x) → Gone c k
  one_more b c j k gone same x turned =
      let vs : List Visit = turned.0 in
      let more = turned.2 in
      let good : Good (means c.source.now) (length c.words.now) c.marks.now c.pending.now c.depth = forth (λ t w. Good t (length w) c.marks.now c.pending.now c.depth) b c same more.good in
      let long : length c.words.now ≡ length b.words.now = ap (λ (w : Bor (List ℕ)). length w.now) same.words in
      let leads : Leads (means a.source.now) a.words.now step vs (frames c.pending.now c.depth) c.marks.now k (frames b.pending.now b.depth) b.marks.now j = back (λ t w. Leads t w step vs (frames c.pending.now c.depth) c.marks.now k (frames b.pending.now b.depth) b.marks.now j) a b gone.same more.leads in
      record {
        same = same_on b c gone.same same;
        under_way = record { good = good; few = omega (arith, more.room, gone.under_way.few, turned.1) };
        visits = gone.visits ++ vs;
        counted = turned.1 ∙ ap (λ n. n + length vs) gone.counted ∙ add_assoc a.visits (length gone.visits) (length vs) ∙ ap (λ n. a.visits + n) (sym (length-append gone.visits vs));
        leads = leads_on (means a.source.now) a.words.now step gone.visits vs _ _ _ _ _ _ _ _ _ gone.leads leads;
      }

  ran : (b c : Walk S) (j k : I) (e : Ending) → Gone b j → c.visits ≡ b.visits → Resume (means a.source.now) a.words.now step (frames b.pending.now b.depth) b.marks.now j [] c.marks.now k e → Ran means step a i c k e
  ran b c j k e gone same r =
      let long : length b.words.now ≡ length a.words.now = ap (λ (w : Bor (List ℕ)). length w.now) gone.same.words in
      (gone.visits, same ∙ gone.counted, omega (arith, gone.under_way.few), subst (λ vs. Resume (means a.source.now) a.words.now step (frames a.pending.now a.depth) a.marks.now i vs c.marks.now k e) (append-nil gone.visits) (gone.leads [] c.marks.now k e r))

  pub stops : (b c : Walk S) (j k : I) → Gone b j → (stop : Stop) → Turned means step b j c k (Err stop) → Ran means step a i c k (Err stop)
  stops b c j k gone stop turned =
      ran b c j k (Err stop) gone turned.0 (back (λ t w. Resume t w step (frames b.pending.now b.depth) b.marks.now j [] c.marks.now k (Err stop)) a b gone.same turned.1)

  pub done : (b : Walk S) (j : I) → Gone b j → b.depth ≤ 0 → Ran means step a i b j Done
  done b j gone none =
      ran b b j j Done gone refl (out_of_frames (means a.source.now) a.words.now step b.pending.now b.depth b.marks.now j none)

-- a walk that is made, once it has entered the pointer's cell
module _ {S I : Type 0} (means : S → Types) (step : I → Visit → Option I) (i : I) (c p : ℕ) (a b : Walk S) (no_frame : a.depth ≡ 0) (no_visit : a.visits ≡ 0) (fit : fits (means a.source.now) (length a.words.now) c p ≡ true) (same : Same a b) (visits : b.visits ≡ a.visits) (entered : Entered (means a.source.now) c p a.marks.now a.pending.now a.depth b.marks.now b.pending.now b.depth) where
  inside : Inside (means a.source.now) (length a.words.now) c p
  inside = inside_fits (means a.source.now) (length a.words.now) c p fit

  entered_first : Entered (means a.source.now) c p a.marks.now a.pending.now 0 b.marks.now b.pending.now b.depth
  entered_first = subst (λ d. Entered (means a.source.now) c p a.marks.now a.pending.now d b.marks.now b.pending.now b.depth) no_frame entered

  pub begins : UnderWay means b
  begins =
      let good : Good (means a.source.now) (length a.words.now) b.marks.now b.pending.now b.depth = begun (means a.source.now) (length a.words.now) c p a.marks.now a.pending.now b.marks.now b.pending.now b.depth inside a.same a.places entered_first in
      let long : length b.words.now ≡ length a.words.now = ap (λ (w : Bor (List ℕ)). length w.now) same.words in
      record {
        good = forth means step b i (λ t w. Good t (length w) b.marks.now b.pending.now b.depth) a b same good;
        few = omega (arith, good.room);
      }

  pub whole : (d : Walk S) (j : I) (e : Ending) → Ran means step b i d j e → Traced (means a.source.now) a.words.now step c p a.marks.now i d.marks.now j (record { ending = e; visits = d.visits })
  whole d j e r =
      let long : length b.words.now ≡ length a.words.now = ap (λ (w : Bor (List ℕ)). length w.now) same.words in
      let some : 0 < length a.pending.now = omega (arith, a.places, inside.some, inside.within) in
      traced (means a.source.now) a.words.now step c p a.marks.now a.pending.now b.marks.now b.pending.now b.depth i r.0 d.marks.now j e d.visits a.same fit some entered_first (back means step b i (λ t w. Resume t w step (frames b.pending.now b.depth) b.marks.now i r.0 d.marks.now j e) a b same r.3) (omega (arith, r.1)) (omega (arith, r.2))
