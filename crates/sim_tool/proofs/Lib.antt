mod LinkLaws
