-- The choice by a test.
pub mod Choice
