mod ValidLemmas
