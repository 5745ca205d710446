-- Lemmas on files and the rules that they break.
mod RefusalsAreRules
