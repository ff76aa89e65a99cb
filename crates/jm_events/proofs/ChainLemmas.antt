use Rattle.std.proofs.Common.{ℕ, ◌≡◌, ◌≢◌, ◌<◌, ◌≤◌, ◌+◌, ◌-◌, ◌*◌, ◌^◌, inl, inr, List, [], ◌∷◌, ◌++◌, length, get_or, set, sym, ap, subst, ◌∙◌, arith}
use Rattle.std.proofs.lemmas.Bool.{cases_eq}
use Rattle.std.proofs.lemmas.Nat.{div_below, mul-le, mul-lt}
use Rattle.std.proofs.lemmas.List.{get_or-set_same, get_or-set_other, get_or_append_left, get_or_push, get_or-map, set-get_or, map-set, map_push, length-map, length-set, length_push}
use Rattle.jm_events.specs.declared.chains.Link.{Link}
use Rattle.jm_events.specs.Chains.{hashes_of, befores_of, chain_of, IsLast, AreHeads, AreBefores, AreChains}

-- ---- the chain of a hash

-- the product by which it is found
pub chain_fits : (chains hash : ℕ) → chains < 2 ^ 32 → hash < 2 ^ 32 → hash * chains < 2 ^ 64
chain_fits chains hash few fits = mul-lt hash chains (2 ^ 32) (2 ^ 32) fits few

-- it is one of them
pub chain_of-within : (chains hash : ℕ) → 0 < chains → hash < 2 ^ 32 → chain_of chains hash < chains
unfolding chain_of
chain_of-within chains hash some fits =
    let below : hash * chains ≤ 4294967295 * chains = mul-le hash chains 4294967295 chains (omega arith) (omega arith) in
    div_below (hash * chains) (2 ^ 32) chains (omega arith) (omega arith)

-- ---- the last number in a chain

-- among none
pub IsLast-none : (hashes : List ℕ) (chains c : ℕ) → IsLast hashes chains c 0 0
IsLast-none hashes chains c = record {
  within = omega arith;
  inside = λ lt. absurd (omega arith);
  beyond = λ k le lt. absurd (omega arith);
}

-- among one more, which is in the chain
IsLast-here : (hashes : List ℕ) (chains c n : ℕ) → chain_of chains (get_or hashes n 0) ≡ c → IsLast hashes chains c (n + 1) (n + 1)
IsLast-here hashes chains c n here =
    let same : n + 1 - 1 ≡ n = omega arith in
    record {
      within = omega arith;
      inside = λ lt. rw same here;
      beyond = λ k le lt. absurd (omega arith);
    }

-- among one more, which is in another chain
IsLast-there : (hashes : List ℕ) (chains c n at : ℕ) → chain_of chains (get_or hashes n 0) ≢ c → IsLast hashes chains c n at → IsLast hashes chains c (n + 1) at
IsLast-there hashes chains c n at there last = record {
  within = omega (arith, last.within);
  inside = last.inside;
  beyond = λ k le lt.
      elim (cases_eq k n) [
        | inl same ↦ rw same there
        | inr other ↦ last.beyond k le (omega arith)
      ];
}

-- by other hashes that are the same up to there
pub IsLast-same : (hashes more : List ℕ) (chains c n at : ℕ) → ((k : ℕ) → k < n → get_or more k 0 ≡ get_or hashes k 0) → IsLast hashes chains c n at → IsLast more chains c n at
IsLast-same hashes more chains c n at same last =
    let within = last.within in
    record {
      within = within;
      inside = λ lt. rw (same (at - 1) (omega arith)) (last.inside lt);
      beyond = λ k le lt. rw (same k lt) (last.beyond k le lt);
    }

-- ---- all chains

-- none has a number yet
pub AreHeads-none : (hashes heads : List ℕ) (chains : ℕ) → ((k : ℕ) → get_or heads k 0 ≡ 0) → AreHeads hashes chains 0 heads
AreHeads-none hashes heads chains zeros = λ c lt. rw (zeros c) (IsLast-none hashes chains c)

-- one more number goes in front of its chain
pub AreHeads-more : (hashes heads : List ℕ) (chains n chain : ℕ) → chain ≡ chain_of chains (get_or hashes n 0) → chain < length heads → AreHeads hashes chains n heads → AreHeads hashes chains (n + 1) (set heads chain (n + 1))
AreHeads-more hashes heads chains n chain is lt all = λ c below.
    elim (cases_eq c chain) [
      | inl same ↦
          rw (same, get_or-set_same heads chain (n + 1) 0 lt) (IsLast-here hashes chains chain n (sym is))
      | inr other ↦
          rw (get_or-set_other heads chain c (n + 1) 0 other) (IsLast-there hashes chains c n (get_or heads c 0) (λ e. other (sym e ∙ sym is)) (all c below))
    ]

-- by other hashes that are the same up to there
pub AreHeads-same : (hashes more heads : List ℕ) (chains n : ℕ) → ((k : ℕ) → k < n → get_or more k 0 ≡ get_or hashes k 0) → AreHeads hashes chains n heads → AreHeads more chains n heads
AreHeads-same hashes more heads chains n same all = λ c below. IsLast-same hashes more chains c n (get_or heads c 0) same (all c below)

-- what stood in front of the chain of one more number stands before it
pub AreBefores-more : (hashes befores more : List ℕ) (chains n : ℕ) → ((k : ℕ) → k < n → get_or more k 0 ≡ get_or befores k 0) → IsLast hashes chains (chain_of chains (get_or hashes n 0)) n (get_or more n 0) → AreBefores hashes chains n befores → AreBefores hashes chains (n + 1) more
AreBefores-more hashes befores more chains n same last all = λ k below.
    elim (cases_eq k n) [
      | inl here ↦ rw here last
      | inr other ↦ let lt : k < n = omega arith in rw (same k lt) (all k lt)
    ]

-- by other hashes that are the same up to there
pub AreBefores-same : (hashes more befores : List ℕ) (chains n : ℕ) → ((k : ℕ) → k < n → get_or more k 0 ≡ get_or hashes k 0) → AreBefores hashes chains n befores → AreBefores more chains n befores
AreBefores-same hashes more befores chains n same all = λ k below.
    rw (same k below) (IsLast-same hashes more chains (chain_of chains (get_or hashes k 0)) k (get_or befores k 0) (λ j lt. same j (omega arith)) (all k below))

-- ---- links

-- what holds after a number is put in front of its chain
pub record IsEntered (links more : List Link) (chains n : ℕ) (heads : List ℕ) : Type 0 where
  pub same : hashes_of more ≡ hashes_of links
  pub lasts : AreHeads (hashes_of more) chains n heads
  pub befores : AreBefores (hashes_of more) chains n (befores_of more)

pub entered : (links more : List Link) (heads after : List ℕ) (chains n h : ℕ) (d : Link) (b : ℕ) → n < length links → h ≡ (get_or links n d).hash → length heads ≡ chains → chain_of chains h < chains → b ≡ get_or heads (chain_of chains h) 0 → more ≡ set links n (record { hash = h; before = b }) → after ≡ set heads (chain_of chains h) (n + 1) → AreHeads (hashes_of links) chains n heads → AreBefores (hashes_of links) chains n (befores_of links) → IsEntered links more chains (n + 1) after
entered links more heads after chains n h d b lt is_h size below is is_more is_after lasts befores =
    let link : Link = record { hash = h; before = b } in
    let chain : ℕ = chain_of chains h in
    let here : get_or (hashes_of links) n 0 ≡ h = get_or-map (λ (link : Link). link.hash) links n d 0 lt ∙ sym is_h in
    let same : hashes_of more ≡ hashes_of links =
    ap hashes_of is_more ∙ map-set (λ (link : Link). link.hash) links n link ∙ ap (set (hashes_of links) n) (sym here) ∙ set-get_or (hashes_of links) n 0 in
    let befores_set : befores_of more ≡ set (befores_of links) n b = ap befores_of is_more ∙ map-set (λ (link : Link). link.before) links n link in
    let many : n < length (befores_of links) = omega (arith, length-map links (λ (link : Link). link.before)) in
    let at : get_or (set (befores_of links) n b) n 0 ≡ b = get_or-set_same (befores_of links) n b 0 many in
    let last : IsLast (hashes_of links) chains chain n (get_or heads chain 0) = lasts chain below in
    let last_here : IsLast (hashes_of links) chains (chain_of chains (get_or (hashes_of links) n 0)) n (get_or (set (befores_of links) n b) n 0) =
    subst (λ h. IsLast (hashes_of links) chains (chain_of chains h) n (get_or (set (befores_of links) n b) n 0)) (sym here) (subst (λ k. IsLast (hashes_of links) chains chain n k) (sym is ∙ sym at) last) in
    let inside : chain < length heads = omega arith in
    let heads' = AreHeads-more (hashes_of links) heads chains n chain (ap (chain_of chains) (sym here)) inside lasts in
    let befores' = AreBefores-more (hashes_of links) (befores_of links) (set (befores_of links) n b) chains n (λ k less. get_or-set_other (befores_of links) n k b 0 (λ e. absurd (omega arith))) last_here befores in
    record {
      same = same;
      lasts = subst (λ hs. AreHeads hs chains (n + 1) after) (sym same) (subst (λ hs. AreHeads (hashes_of links) chains (n + 1) hs) (sym is_after) heads');
      befores = subst (λ hs. AreBefores hs chains (n + 1) (befores_of more)) (sym same) (subst (λ bs. AreBefores (hashes_of links) chains (n + 1) bs) (sym befores_set) befores');
    }

-- chains by what their links and heads are
AreChains-by : (links : List Link) (heads hashes befores : List ℕ) (chains n : ℕ) → hashes_of links ≡ hashes → befores_of links ≡ befores → length heads ≡ chains → length links ≡ n → chains < 2 ^ 32 → n ≤ chains → AreHeads hashes chains n heads → AreBefores hashes chains n befores → AreChains links heads
AreChains-by links heads hashes befores chains n hs bs cs ns few enough lasts before = record {
  few = omega arith;
  enough = omega arith;
  lasts =
      subst (λ h. AreHeads h (length heads) (length links) heads) (sym hs) (subst (λ c. AreHeads hashes c (length links) heads) (sym cs) (subst (λ k. AreHeads hashes chains k heads) (sym ns) lasts));
  befores =
      subst (λ h. AreBefores h (length heads) (length links) (befores_of links)) (sym hs) (subst (λ c. AreBefores hashes c (length links) (befores_of links)) (sym cs) (subst (λ k. AreBefores hashes chains k (befores_of links)) (sym ns) (subst (λ b. AreBefores hashes chains n b) (sym bs) before)));
}

-- a number at the end that is put in front of its chain
pub AreChains-push : (links : List Link) (heads : List ℕ) (hash b n : ℕ) → n ≡ length links → n < length heads → chain_of (length heads) hash < length heads → b ≡ get_or heads (chain_of (length heads) hash) 0 → AreChains links heads → AreChains (links ++ (record { hash = hash; before = b }) ∷ []) (set heads (chain_of (length heads) hash) (n + 1))
AreChains-push links heads hash b n len room inside is all =
    let link : Link = record { hash = hash; before = b } in
    let hs : List ℕ = hashes_of links in
    let bs : List ℕ = befores_of links in
    let chains : ℕ = length heads in
    let chain : ℕ = chain_of chains hash in
    let more : List ℕ = hs ++ hash ∷ [] in
    let hs_len : length hs ≡ n = length-map links (λ (link : Link). link.hash) ∙ sym len in
    let bs_len : length bs ≡ n = length-map links (λ (link : Link). link.before) ∙ sym len in
    let below : (k : ℕ) → k < n → get_or more k 0 ≡ get_or hs k 0 = λ k lt. get_or_append_left hs (hash ∷ []) 0 k (omega arith) in
    let bs_below : (k : ℕ) → k < n → get_or (bs ++ b ∷ []) k 0 ≡ get_or bs k 0 = λ k lt. get_or_append_left bs (b ∷ []) 0 k (omega arith) in
    let at : get_or more n 0 ≡ hash = get_or_push hs hash 0 n hs_len in
    let b_at : get_or (bs ++ b ∷ []) n 0 ≡ b = get_or_push bs b 0 n bs_len in
    let lasts : AreHeads hs chains n heads = subst (λ k. AreHeads hs chains k heads) (sym len) all.lasts in
    let before : AreBefores hs chains n bs = subst (λ k. AreBefores hs chains k bs) (sym len) all.befores in
    let lasts_more : AreHeads more chains n heads = AreHeads-same hs more heads chains n below lasts in
    let before_more : AreBefores more chains n bs = AreBefores-same hs more bs chains n below before in
    let last : IsLast more chains (chain_of chains (get_or more n 0)) n (get_or (bs ++ b ∷ []) n 0) =
    subst (λ h. IsLast more chains (chain_of chains h) n (get_or (bs ++ b ∷ []) n 0)) (sym at) (subst (λ k. IsLast more chains chain n k) (sym is ∙ sym b_at) (lasts_more chain inside)) in
    let heads' = AreHeads-more more heads chains n chain (ap (chain_of chains) (sym at)) inside lasts_more in
    let befores' = AreBefores-more more bs (bs ++ b ∷ []) chains n bs_below last before_more in
    AreChains-by (links ++ link ∷ []) (set heads chain (n + 1)) more (bs ++ b ∷ []) chains (n + 1) (map_push (λ (link : Link). link.hash) links link) (map_push (λ (link : Link). link.before) links link) (length-set heads chain (n + 1)) (length_push links link ∙ ap (λ k. k + 1) (sym len)) all.few (omega arith) heads' befores'
